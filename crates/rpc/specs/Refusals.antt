-- A request is refused with 29, 30, 31 or 35 and no other number (document 02, 2026-01 and 2026-05). Rests on Rpc.
use Rattle.std.specs.Prelude.{ℕ, ◌≡◌, ◌⊎◌, List, Err}
use Rattle.refusals.specs.Numbers.{call_cut, parameter_cut, parameter_not_read, headers_too_small}
use Rattle.request.specs.Headers.{OfThoseThatCannotBe}
use Rattle.rpc.specs.Rpc.{rpc_of}

-- a number of the call itself, which stands after the headers
abbrev pub CallNumber : ℕ → Type 0
CallNumber n = (n ≡ call_cut) ⊎ ((n ≡ parameter_cut) ⊎ (n ≡ parameter_not_read))

-- a number of a request's own
abbrev pub OwnNumber : ℕ → Type 0
OwnNumber n = (n ≡ headers_too_small) ⊎ CallNumber n

-- 24 and 26, by which types and values are refused in a reply, are met by no call
abbrev pub RefusedByOwn : Type 0
RefusedByOwn = (body : List ℕ) (number n : ℕ) → rpc_of body number ≡ Err n → OwnNumber n

-- 35 refuses the requests whose headers length cannot be, and no others
abbrev pub CallTooSmall : Type 0
CallTooSmall = (number : ℕ) → OfThoseThatCannotBe (λ body. rpc_of body number ≡ Err headers_too_small)
