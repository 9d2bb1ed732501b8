-- What the answers for a token and for the texts of a message tell, and a refusal that is handed on. Assumes nothing.
use mathlib.Core.Path.{◌≡◌, sym}
use Prim.Native.Nat.{ℕ}
use Rattle.std.specs.Prelude.{Result, Ok, Err}
use Rattle.std.specs.Result.{IsErrAnd}
use Rattle.std.proofs.lemmas.Result.{err_from_is_err_and}
use Rattle.refusals.specs.declared.Refusal.{Refusal}
use Rattle.refusals.specs.Refused.{number, numbered}
use Rattle.wire.proofs.Cases.{clash}
use Rattle.reader.specs.declared.Token.{Token}
use Rattle.reader.specs.declared.token_reader.Texts.{Texts}
use Rattle.reader.specs.declared.token_reader.TextsAt.{TextsAt}
use Rattle.reader.specs.declared.token_reader.TokenAt.{TokenAt}
use Rattle.payload.specs.Places.{Read, whole, refused}
use Rattle.reader.specs.Code.{token_read, texts_read}

pub texts-is : (x : Read Texts) {t : TextsAt} → Ok t ≡ texts_read x → x ≡ whole t.texts t.next
texts-is (whole u at) {t = t} e = let q : t ≡ record { texts = u; next = at } = cc in rw q
texts-is (refused m) e = clash (cc)

pub texts-is-not : (x : Read Texts) {m : ℕ} → Err m ≡ texts_read x → x ≡ refused m
texts-is-not (whole u at) e = clash (cc)
texts-is-not (refused n) e = cc

pub token-is : (x : Read Token) {t : TokenAt} → Ok t ≡ token_read x → x ≡ whole t.token t.next
token-is (whole u at) {t = t} e = let q : t ≡ record { token = u; next = at } = cc in rw q
token-is (refused m) e = clash (cc)

pub token-is-not : (x : Read Token) {m : ℕ} → Err m ≡ token_read x → x ≡ refused m
token-is-not (whole u at) e = clash (cc)
token-is-not (refused n) e = cc

-- a refusal that is handed on
module _ {A B : Type 0} (answer : Read A → Result B ℕ) (refusal : (n : ℕ) → answer (refused n) ≡ Err n) where
  pub handed-on : (r : Result B Refusal) {x : Read A} (m : Refusal) → IsErrAnd r (λ y. y ≡ m) → x ≡ refused (number m) → numbered r ≡ answer x
  handed-on r m h e = let p = err_from_is_err_and r h in rw (p.1, p.2, e) (sym (refusal (number m)))
