-- 35 refuses the requests whose headers length cannot be, and no others (document 02, 2026-05). Rests on Headers, Batch and Transaction.
use Rattle.std.specs.Prelude.{◌≡◌, List, ℕ, Err, None}
use Rattle.refusals.specs.Numbers.{headers_too_small}
use Rattle.request.specs.Headers.{all_headers, CannotBe, OfThoseThatCannotBe}
use Rattle.request.specs.Batch.{sql_batch}
use Rattle.request.specs.Transaction.{transaction_request, transaction_descriptor}
use Rattle.request.specs.declared.HeadersFault.TheVariants.{TooSmall}

-- the headers' answer, by which all others go
abbrev pub HeadersTooSmall : Type 0
HeadersTooSmall = OfThoseThatCannotBe λ body. all_headers body ≡ Err TooSmall

-- batches, after 1 and 2, and before 3 and 4
abbrev pub BatchTooSmall : Type 0
BatchTooSmall = OfThoseThatCannotBe λ body. sql_batch body ≡ Err headers_too_small

-- transaction requests, before any 10 that is not for want of four bytes
abbrev pub TypeTooSmall : Type 0
TypeTooSmall = OfThoseThatCannotBe λ body. transaction_request body ≡ Err headers_too_small

-- the descriptor, which refuses nothing: there is none
abbrev pub DescriptorTooSmall : Type 0
DescriptorTooSmall = (body : List ℕ) → CannotBe body → transaction_descriptor body ≡ None
