-- The headers that a request begins with (MS-TDS 2.2.5.3, ALL_HEADERS): a 4-byte length of the block, which counts itself, and the
-- headers. Document 01, 'Requests and logins', and document 02, 2026-05. Rests on wire's numbers.
use Rattle.std.specs.Prelude.{ℕ, ◌≤◌, ◌<◌, List, cond, ltb, length, Result, Ok, Err}
use Rattle.wire.specs.Le.{le_at}
use Rattle.request.specs.declared.HeadersFault.{HeadersFault}
use Rattle.request.specs.declared.HeadersFault.TheVariants.{Short, TooSmall, PastEnd}

-- the length of the headers block of a request. One of 0 to 3 cannot be, since it counts its own four bytes; the Rust accepts it
unfoldable pub all_headers : List ℕ → Result ℕ HeadersFault
all_headers body =
    cond (ltb (length body) 4) (Err Short)
    (cond (ltb (le_at 4 body) 4) (Err TooSmall)
    (cond (ltb (length body) (le_at 4 body)) (Err PastEnd)
    (Ok (le_at 4 body))))

-- ---- which lengths cannot be

-- a request with four bytes for the length, which is 0 to 3
abbrev pub CannotBe : List ℕ → Type 0
CannotBe body = (4 ≤ length body) × (le_at 4 body < 4)

-- some property of requests holds of these and of no others
abbrev pub OfThoseThatCannotBe : (List ℕ → Type 0) → Type 0
OfThoseThatCannotBe holds = (body : List ℕ) → (holds body → CannotBe body) × (CannotBe body → holds body)
