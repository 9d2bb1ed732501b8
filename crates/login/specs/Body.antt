-- What a login says by its fixed part and its table of offsets and lengths (MS-TDS 2.2.6.4, LOGIN7; document 01, 'Requests
-- and logins'). Places count from the body's first byte. Rests on wire and text.
use Rattle.std.specs.Prelude.{ℕ, ◌+◌, ◌*◌, ◌/◌, ◌%◌, List, Bool, cond, ◌&&◌, length, drop, leb, ltb, eqb, Option, Some, None}
use Rattle.wire.specs.Le.{le_at}
use Rattle.wire.specs.Part.{part_bytes}
use Rattle.wire.specs.declared.Part.{Part}
use Rattle.text.specs.Surrogates.{well_formed}

-- the part that an entry of the table stands for: an offset in bytes and a length in units, two bytes each
abbrev pub part_at : List ℕ → ℕ → Part
part_at s entry = record { start = le_at 2 (drop entry s); len = 2 * le_at 2 (drop (entry + 2) s) }

-- a part that ends within the body
abbrev pub ends_inside : List ℕ → Part → Bool
ends_inside s p = leb (p.start + p.len) (length s)

-- The text of an entry that is whole. An empty one, one that runs past the end and one that is not UTF-16 are none.
unfoldable pub text_at : List ℕ → ℕ → Option Part
text_at s entry =
    let p = part_at s entry in
    cond (leb (entry + 4) (length s) && ltb 0 p.len && ends_inside s p && well_formed (part_bytes s p)) (Some p) None

-- OptionFlags3 (at 27) has fExtension, and the entry ibExtension (at 56) is whole
unfoldable pub has_extension : List ℕ → Bool
has_extension s = leb 60 (length s) && eqb (le_at 1 (drop 27 s) / 0x10 % 2) 1

-- ibExtension: where the offset of the features stands, in 4 bytes. The length beside it is not looked at.
unfoldable pub extension : List ℕ → ℕ
extension s = le_at 2 (drop 56 s)

-- where the features start; of a login that has none, its end. The Rust lets the offset point anywhere, into the fixed part too.
unfoldable pub features_at : List ℕ → ℕ
features_at s = cond (has_extension s && leb (extension s + 4) (length s)) (le_at 4 (drop (extension s) s)) (length s)
