-- No refusal has the number 0, which stands for none. Assumes nothing.
use mathlib.Core.Path.{◌≡◌, refl}
use Prim.Native.Nat.{◌≤◌}
use native.Mathlib.Omega.{arith}
use Rattle.refusals.specs.Refused.{number}
use Rattle.refusals.specs.declared.Refusal.{Refusal}
use Rattle.refusals.specs.declared.Refusal.TheVariants.{BatchEmpty, BatchTooShort, HeadersPastEnd, BatchNotUtf16, TokenTooShort, OuterLength, InnerLength, HeaderTooShort, UnknownPacketType, NoTransactionType, CallCut, ParameterCut, ParameterNotRead, HeadersTooSmall, RecordCut, KindWrong, ShapeWrong, TextWrong, EmptyChunk, NameTooLong, ResultTooLong, InputTooLong, BufferTooShort, OddText, NotUtf16, UnitWithoutByte, PacketSize, NotAReply, NotTheNext, EndBitWrong, Cut, UnknownToken, InnerWrong, TooManyColumns, RowWithoutColumns}

-- the number of a refusal is 1 or more
pub number-some : (r : Refusal) → 1 ≤ number r
number-some BatchEmpty = omega arith
number-some BatchTooShort = omega arith
number-some HeadersPastEnd = omega arith
number-some BatchNotUtf16 = omega arith
number-some TokenTooShort = omega arith
number-some OuterLength = omega arith
number-some InnerLength = omega arith
number-some HeaderTooShort = omega arith
number-some UnknownPacketType = omega arith
number-some NoTransactionType = omega arith
number-some CallCut = omega arith
number-some ParameterCut = omega arith
number-some ParameterNotRead = omega arith
number-some HeadersTooSmall = omega arith
number-some RecordCut = omega arith
number-some KindWrong = omega arith
number-some ShapeWrong = omega arith
number-some TextWrong = omega arith
number-some EmptyChunk = omega arith
number-some NameTooLong = omega arith
number-some ResultTooLong = omega arith
number-some InputTooLong = omega arith
number-some BufferTooShort = omega arith
number-some OddText = omega arith
number-some NotUtf16 = omega arith
number-some UnitWithoutByte = omega arith
number-some PacketSize = omega arith
number-some NotAReply = omega arith
number-some NotTheNext = omega arith
number-some EndBitWrong = omega arith
number-some Cut = omega arith
number-some UnknownToken = omega arith
number-some InnerWrong = omega arith
number-some TooManyColumns = omega arith
number-some RowWithoutColumns = omega arith

-- so it is not 0
pub number-not-0 : (r : Refusal) → number r ≡ 0 → ⊥
number-not-0 r e = omega (arith, number-some r)

-- no other refusal has the number of a cut
pub cut_alone : (r : Refusal) → number r ≡ 24 → r ≡ Cut
cut_alone BatchEmpty e = absurd (omega (arith, e))
cut_alone BatchTooShort e = absurd (omega (arith, e))
cut_alone HeadersPastEnd e = absurd (omega (arith, e))
cut_alone BatchNotUtf16 e = absurd (omega (arith, e))
cut_alone TokenTooShort e = absurd (omega (arith, e))
cut_alone OuterLength e = absurd (omega (arith, e))
cut_alone InnerLength e = absurd (omega (arith, e))
cut_alone HeaderTooShort e = absurd (omega (arith, e))
cut_alone UnknownPacketType e = absurd (omega (arith, e))
cut_alone NoTransactionType e = absurd (omega (arith, e))
cut_alone CallCut e = absurd (omega (arith, e))
cut_alone ParameterCut e = absurd (omega (arith, e))
cut_alone ParameterNotRead e = absurd (omega (arith, e))
cut_alone HeadersTooSmall e = absurd (omega (arith, e))
cut_alone RecordCut e = absurd (omega (arith, e))
cut_alone KindWrong e = absurd (omega (arith, e))
cut_alone ShapeWrong e = absurd (omega (arith, e))
cut_alone TextWrong e = absurd (omega (arith, e))
cut_alone EmptyChunk e = absurd (omega (arith, e))
cut_alone NameTooLong e = absurd (omega (arith, e))
cut_alone ResultTooLong e = absurd (omega (arith, e))
cut_alone InputTooLong e = absurd (omega (arith, e))
cut_alone BufferTooShort e = absurd (omega (arith, e))
cut_alone OddText e = absurd (omega (arith, e))
cut_alone NotUtf16 e = absurd (omega (arith, e))
cut_alone UnitWithoutByte e = absurd (omega (arith, e))
cut_alone PacketSize e = absurd (omega (arith, e))
cut_alone NotAReply e = absurd (omega (arith, e))
cut_alone NotTheNext e = absurd (omega (arith, e))
cut_alone EndBitWrong e = absurd (omega (arith, e))
cut_alone Cut e = refl
cut_alone UnknownToken e = absurd (omega (arith, e))
cut_alone InnerWrong e = absurd (omega (arith, e))
cut_alone TooManyColumns e = absurd (omega (arith, e))
cut_alone RowWithoutColumns e = absurd (omega (arith, e))
