-- The sizes and faults of tokens and pieces. Assumes nothing.
use mathlib.Core.Path.{◌≡◌, refl, sym, ap, ◌∙◌}
use mathlib.Core.Bool.{cond, ◌||◌}
use mathlib.Core.List.{List, [], ◌∷◌, ◌++◌, append_assoc}
use Prim.Native.Nat.{ℕ, zero, suc, ◌+◌, ◌≤◌}
use native.Mathlib.Omega.{arith}
use lib.Dec.{eqb, eqb-suc-zero}
use lib.ListN.{length, length-append}
use Rattle.wire.specs.Fields.{flat}
use Rattle.wire.proofs.Fields.{size_none, size_word, size-raw}
use Rattle.token.specs.Types.{length_width}
use Rattle.token.specs.Tokens.{Token, metadata, column, row, cell, EncodedCell, integer, no_integer, bounded, long, no_long, put_chunks, token_bytes}
use Rattle.token.specs.Names.{long_name, name_fault}
use Rattle.wire.proofs.Cases.{by-test}
use Rattle.refusals.specs.Numbers.{name_too_long}
use Rattle.std.specs.Prelude.{Result, Ok, Err, ⊤}
use Rattle.std.specs.Result.{result_and}
use Rattle.refusals.specs.declared.Refusal.{Refusal}
use Rattle.refusals.specs.Refused.{number, refused_by}
use Rattle.refusals.proofs.Numbers.{number-not-0}
use borrow.Author.Tests.{ne_eqb}
use Rattle.token.proofs.Puts.{bytes-before}
use Rattle.emission.specs.Emission.{Piece, token_piece, classification_piece, put_pieces, bytes_in}
use Rattle.emission.specs.Refusal.{token_fault, piece_fault, fault_in}
use Rattle.emission.specs.Runs.{capped, record_size, run_size}

-- ---- sizes as far as they matter

pub cap-left : (a b : ℕ) → capped (capped a + b) ≡ capped (a + b)
unfolding capped
cap-left a b = omega arith

pub cap-right : (a b : ℕ) → capped (a + capped b) ≡ capped (a + b)
unfolding capped
cap-right a b = omega arith

pub cap-three : (a b c : ℕ) → capped (a + capped b + c) ≡ capped (a + (b + c))
unfolding capped
cap-three a b c = omega arith

pub cap-both : (a b : ℕ) → capped (capped a + capped b) ≡ capped (a + b)
unfolding capped
cap-both a b = omega arith

pub cap-texts : (a b c : ℕ) → capped (17 + capped (capped (a + b) + c)) ≡ capped (17 + (a + b + c))
unfolding capped
cap-texts a b c = omega arith

pub cap-small : (a : ℕ) → capped a ≤ 65536
unfolding capped
cap-small a = omega arith

pub cap-of : (a : ℕ) → a ≤ 65536 → capped a ≡ a
unfolding capped
cap-of a h = omega arith

pub cap-same : {a b : ℕ} → a ≡ b → capped a ≡ capped b
cap-same e = ap capped e

-- the first of two faults, and then a third
pub first-of-three : (f a b : ℕ) → cond (eqb f 0) (cond (eqb a 0) b a) f ≡ cond (eqb (cond (eqb f 0) a f) 0) b (cond (eqb f 0) a f)
first-of-three zero a b = refl
first-of-three (suc f) a b = rw (eqb-suc-zero f, eqb-suc-zero f)

-- two refusals, one after the other
pub first_refused : (a b : Result ⊤ Refusal) → refused_by (result_and a b) ≡ cond (eqb (refused_by a) 0) (refused_by b) (refused_by a)
first_refused (Ok tt) b = refl
first_refused (Err r) b = rw (ne_eqb (number r) 0 (number-not-0 r))

-- the first fault of two names
pub first-name : (a b : List ℕ) → cond (eqb (name_fault a) 0) (name_fault b) (name_fault a) ≡ cond (long_name a || long_name b) name_too_long 0
unfolding name_fault
first-name a b = by-test (long_name a) (λ e. rw e) (λ e. rw e)

module _ (a b : List ℕ) where
  pub name-bad : (r : Refusal) → number r ≡ name_fault a → number r ≡ cond (long_name a || long_name b) name_too_long 0
  name-bad r e = e ∙ (rw (ne_eqb (name_fault a) 0 (λ z. number-not-0 r (e ∙ z))) at (first-name a b))

  pub name-good : {f : ℕ} → 0 ≡ name_fault a → f ≡ name_fault b → f ≡ cond (long_name a || long_name b) name_too_long 0
  name-good e g = g ∙ (rw (sym e) at (first-name a b))

-- ---- tokens

pub size-column : (u f c l : ℕ) (o n : List ℕ) → length (token_bytes (column u f c l o n)) ≡ 8 + length_width c + length o + length n
unfolding token_bytes
size-column u f c l o n = simp (size_word, size-raw, size_none) (omega arith)

pub size-metadata : (n : ℕ) → length (token_bytes (metadata n)) ≡ 3
unfolding token_bytes
size-metadata n = simp (size_word, size_none)

pub size-row : length (token_bytes row) ≡ 1
unfolding token_bytes
size-row = simp (size_word, size_none)

pub size-integer : (w n : ℕ) → length (token_bytes (cell (integer w n))) ≡ 1 + w
unfolding token_bytes
size-integer w n = simp (size_word, size_none) (omega arith)

pub size-no-integer : length (token_bytes (cell no_integer)) ≡ 1
unfolding token_bytes
size-no-integer = simp (size_word, size_none)

pub size-bounded : (x : List ℕ) → length (token_bytes (cell (bounded x))) ≡ 2 + length x
unfolding token_bytes
size-bounded x = simp (size_word, size-raw, size_none) (omega arith)

pub size-no-long : length (token_bytes (cell no_long)) ≡ 8
unfolding token_bytes
size-no-long = simp (size_word, size_none)

size-chunks : (cs : List (List ℕ)) → length (flat (put_chunks cs [])) ≡ 4 + run_size 6 cs
unfolding run_size record_size
size-chunks [] = simp (size_word, size_none)
size-chunks (c ∷ cs) = simp (size_word, size-raw, size-chunks cs) (omega arith)

pub size-long : (cs : List (List ℕ)) → length (token_bytes (cell (long cs))) ≡ 12 + run_size 6 cs
unfolding token_bytes
size-long cs = simp (size_word, size-chunks cs) (omega arith)

-- ---- pieces, one after another

pub bytes-none : bytes_in [] ≡ []
unfolding bytes_in flat
bytes-none = refl

pub bytes-told : (t : Token EncodedCell) (ps : List Piece) → bytes_in (token_piece t ∷ ps) ≡ token_bytes t ++ bytes_in ps
unfolding bytes_in
bytes-told t ps = bytes-before t (put_pieces ps)

pub bytes-classified : (x : List ℕ) (ps : List Piece) → bytes_in (classification_piece x ∷ ps) ≡ x ++ bytes_in ps
unfolding bytes_in flat
bytes-classified x ps = refl

pub bytes-cat : (ps qs : List Piece) → bytes_in (ps ++ qs) ≡ bytes_in ps ++ bytes_in qs
bytes-cat [] qs = rw bytes-none
bytes-cat (token_piece t ∷ ps) qs = bytes-told t (ps ++ qs) ∙ rw (bytes-cat ps qs, bytes-told t ps) (sym (append_assoc (token_bytes t) (bytes_in ps) (bytes_in qs)))
bytes-cat (classification_piece x ∷ ps) qs = bytes-classified x (ps ++ qs) ∙ rw (bytes-cat ps qs, bytes-classified x ps) (sym (append_assoc x (bytes_in ps) (bytes_in qs)))

pub size-told : (t : Token EncodedCell) (ps : List Piece) → length (bytes_in (token_piece t ∷ ps)) ≡ length (token_bytes t) + length (bytes_in ps)
size-told t ps = ap length (bytes-told t ps) ∙ length-append (token_bytes t) (bytes_in ps)

pub size-class : (x : List ℕ) (ps : List Piece) → length (bytes_in (classification_piece x ∷ ps)) ≡ length x + length (bytes_in ps)
size-class x ps = ap length (bytes-classified x ps) ∙ length-append x (bytes_in ps)

pub size-nothing : length (bytes_in []) ≡ 0
size-nothing = ap length bytes-none

pub size-cat : (ps qs : List Piece) → length (bytes_in (ps ++ qs)) ≡ length (bytes_in ps) + length (bytes_in qs)
size-cat ps qs = ap length (bytes-cat ps qs) ∙ length-append (bytes_in ps) (bytes_in qs)

-- one token
pub size-one : (t : Token EncodedCell) → length (bytes_in (token_piece t ∷ [])) ≡ length (token_bytes t)
size-one t = omega (arith, size-told t [], size-nothing)

pub one-fault : (f : ℕ) → cond (eqb f 0) 0 f ≡ f
one-fault zero = refl
one-fault (suc f) = rw (eqb-suc-zero f)

pub fault-one : (t : Token EncodedCell) → fault_in (token_piece t ∷ []) ≡ token_fault t
unfolding fault_in
fault-one t = one-fault (token_fault t)

pub fault-cat : (ps qs : List Piece) → fault_in (ps ++ qs) ≡ cond (eqb (fault_in ps) 0) (fault_in qs) (fault_in ps)
unfolding fault_in
fault-cat [] qs = refl
fault-cat (x ∷ ps) qs = rw (fault-cat ps qs) (first-of-three (piece_fault x) (fault_in ps) (fault_in qs))
