-- Laws for whoever shows that a list of tokens is well formed: what texts that are UTF-16, names of at most 255 units and the
-- types of `SqlDataType` give for columns and messages, and each token before well-formed ones. Assumes nothing.
use mathlib.Core.Path.{◌≡◌, refl}
use mathlib.Core.Bool.{true, false, ◌||◌}
use mathlib.Core.List.{List, [], ◌∷◌, ◌++◌}
use Prim.Native.Nat.{ℕ, suc, ◌%◌, ◌^◌, ◌≤◌, ◌<◌}
use native.Mathlib.Omega.{arith}
use borrow.Author.Tests.{eqb-true}
use lib.Dec.{eqb}
use lib.ListN.{length}
use Rattle.text.specs.Surrogates.{surrogates, paired, well_formed}
use Rattle.token.specs.declared.SqlDataType.{SqlDataType}
use Rattle.token.specs.declared.SqlDataType.TheVariants.{TinyInt, SmallInt, Int, BigInt, NVarChar, NVarCharMax, VarCharMax, VarBinaryMax}
use Rattle.text.specs.Units.{units}
use Rattle.text.proofs.Scan.{units-half}
use Rattle.token.specs.Types.{type_code, type_length, collation_size}
use Rattle.packet.specs.Status.{has_bit}
use Rattle.token.specs.Tokens.{Token, metadata, column, row, cell, done, message, EncodedCell}
use Rattle.cells.specs.Cells.{is_type}
use Rattle.reader.proofs.WellFormed.{ColumnType, ColumnOk, CellOk, DoneOk, MessageOk, among, between, in_row, WF, wf-metadata, wf-column, wf-row, wf-cell, wf-message, wf-done, wf-last}
use Rattle.cells.proofs.Types.{both}

-- the types that the Rust writes are types that the reader knows
pub sent-type : (t : SqlDataType) → is_type (type_code t) (type_length t) ≡ true
unfolding is_type
sent-type TinyInt = refl
sent-type SmallInt = refl
sent-type Int = refl
sent-type BigInt = refl
sent-type NVarChar = refl
sent-type NVarCharMax = refl
sent-type VarCharMax = refl
sent-type VarBinaryMax = refl

pub even-text : (t : List ℕ) → well_formed t ≡ true → length t % 2 ≡ 0
unfolding well_formed
even-text t e = eqb-true (length t % 2) 0 (both (eqb (length t % 2) 0) (paired (surrogates t)) e).0

pub column-ok : {u f c l : ℕ} {o n : List ℕ} → u < 256 ^ 4 → f < 256 ^ 2 → is_type c l ≡ true → length o ≡ collation_size c
    → well_formed n ≡ true → units n ≤ 255 → ColumnOk u f c l o n
column-ok {n = n} u f t o w m = record {
  user< = u;
  flags< = f;
  type-is = t;
  collation-is = o;
  name-is = omega (arith, units-half n, even-text n w);
  name< = omega (arith, m);
}

pub done_ok : {s c n : ℕ} → s < 256 ^ 2 → c < 256 ^ 2 → n < 256 ^ 8 → DoneOk s c n
done_ok s c n = record { status< = s; command< = c; count< = n }

pub message-ok : {k n s c l : ℕ} {t v p : List ℕ} → (eqb k 0xAA || eqb k 0xAB) ≡ true → n < 256 ^ 4 → s < 256 → c < 256 → l < 256 ^ 4
    → well_formed t ≡ true → well_formed v ≡ true → units v ≤ 255 → well_formed p ≡ true → units p ≤ 255 → MessageOk k n s c t v p l
message-ok {t = t} {v = v} {p = p} k n s c l t-is v-is v≤ p-is p≤ =
    let v-even = even-text v v-is in
    let p-even = even-text p p-is in
    record {
      kind-is = k;
      number< = n;
      state< = s;
      class< = c;
      line< = l;
      text-even = even-text t t-is;
      server-even = v-even;
      server≤ = omega (arith, units-half v);
      procedure-even = p-even;
      procedure≤ = omega (arith, units-half p);
    }

-- ---- each token before well-formed ones. These are the constructors, as functions: where they stand, what they ask is known

module _ {cs : List ColumnType} {ts : List (Token EncodedCell)} where
  pub metadata-then : {n : ℕ} → n ≤ 128 → WF (among [] n) ts → WF (between cs) (metadata n ∷ ts)
  metadata-then l w = wf-metadata l w

  pub column-then : {k u f c l : ℕ} {o n : List ℕ} → ColumnOk u f c l o n → WF (among (cs ++ (record { code = c; limit = l } ∷ [])) k) ts
      → WF (among cs (suc k)) (column u f c l o n ∷ ts)
  column-then ok w = wf-column ok w

  pub row-then : 0 < length cs → WF (in_row cs cs) ts → WF (between cs) (row ∷ ts)
  row-then l w = wf-row l w

  pub cell-then : {cells : List ColumnType} {c : ColumnType} {v : EncodedCell} → CellOk c v → WF (in_row cs cells) ts → WF (in_row cs (c ∷ cells)) (cell v ∷ ts)
  cell-then ok w = wf-cell ok w

  pub message-then : {k n s c l : ℕ} {t v p : List ℕ} → MessageOk k n s c t v p l → WF (between cs) ts → WF (between cs) (message k n s c t v p l ∷ ts)
  message-then ok w = wf-message ok w

  pub done-then : {s c n : ℕ} → DoneOk s c n → has_bit 0x01 s ≡ true → WF (between []) ts → WF (between cs) (done s c n ∷ ts)
  done-then ok m w = wf-done ok m w

pub done-last : {cs : List ColumnType} {s c n : ℕ} → DoneOk s c n → has_bit 0x01 s ≡ false → WF (between cs) (done s c n ∷ [])
done-last ok m = wf-last ok m
