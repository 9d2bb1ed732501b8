-- What private functions promise: a token that was read, or the texts of a message. Rests on payload's places.
use Rattle.std.specs.Prelude.{ℕ, Result, Ok, Err}
use Rattle.payload.specs.Places.{Read, whole, refused}
use Rattle.reader.specs.declared.Token.{Token}
use Rattle.reader.specs.declared.token_reader.TokenAt.{TokenAt}
use Rattle.reader.specs.declared.token_reader.Texts.{Texts}
use Rattle.reader.specs.declared.token_reader.TextsAt.{TextsAt}

-- a token with the place after it, or the number of a refusal
abbrev pub token_read : Read Token → Result TokenAt ℕ
token_read (whole t at) = Ok (record { token = t; next = at })
token_read (refused r) = Err r

-- the texts of a message, likewise
abbrev pub texts_read : Read Texts → Result TextsAt ℕ
texts_read (whole t at) = Ok (record { texts = t; next = at })
texts_read (refused r) = Err r
