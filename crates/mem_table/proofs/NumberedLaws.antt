-- Entries by their numbers.
use Rattle.std.proofs.Common.{◌≡◌, ℕ, zero, suc, ◌<◌, List, [], ◌∷◌, length, map, get_or, refl, sym, ap, ◌∙◌, arith}
use Rattle.std.specs.Prelude.{slice_get, Some}
use Rattle.std.specs.Option.{option_map}
use Rattle.std.proofs.lemmas.Option.{slice_get-map, slice_get-get_or, get_or_from_slice_get}
use Rattle.std.proofs.lemmas.List.{length-map}
use Rattle.mvcc_key.specs.KeyFormat.{encoded_name}
use Rattle.mvcc_key.specs.Encoded.{name_in, known_name}
use Rattle.mvcc_key.specs.Points.{Point, AreEncodable}
use Rattle.mvcc_key.proofs.PointLaws.{HasPoint-key}
use Rattle.mem_table.specs.views.Entries.{no_point, entry_at, abbreviated_at, numbered, IsIndex}

-- as many as there are numbers
pub length-numbered : (points : List Point) (numbers : List ℕ) → length (numbered points numbers) ≡ length numbers
length-numbered points numbers = length-map numbers _

-- the entry at a place
pub numbered-at : (points : List Point) (numbers : List ℕ) (i : ℕ) → i < length numbers → slice_get (numbered points numbers) i ≡ Some (entry_at points (get_or numbers i 0))
numbered-at points numbers i within = slice_get-map (entry_at points) numbers i ∙ ap (option_map (entry_at points)) (slice_get-get_or numbers i 0 within)

-- what is mapped, at a place
pub mapped-at : (f : ℕ → ℕ) (xs : List ℕ) (i : ℕ) → i < length xs → get_or (map f xs) i 0 ≡ f (get_or xs i 0)
mapped-at f [] i within = absurd (omega arith)
mapped-at f (x ∷ xs) zero within = refl
mapped-at f (x ∷ xs) (suc i) within = mapped-at f xs i (omega arith)

-- the abbreviated key at a place is the entry's
pub abbreviated-at : (points : List Point) (abbreviated_keys numbers : List ℕ) (i : ℕ) → IsIndex points abbreviated_keys numbers → i < length numbers → get_or abbreviated_keys i 0 ≡ abbreviated_at points (get_or numbers i 0)
abbreviated-at points abbreviated_keys numbers i index within = ap (λ (hs : List ℕ). get_or hs i 0) index.abbreviated_keys_are ∙ mapped-at (abbreviated_at points) numbers i within

-- there are as many abbreviated keys as numbers
pub length-abbreviated_keys : (points : List Point) (abbreviated_keys numbers : List ℕ) → IsIndex points abbreviated_keys numbers → length abbreviated_keys ≡ length numbers
length-abbreviated_keys points abbreviated_keys numbers index = ap length index.abbreviated_keys_are ∙ length-map numbers _

-- the key of an entry is read as its name
pub key-name : (points : List Point) (number : ℕ) (key : List ℕ) → AreEncodable points
    → option_map (λ p. encoded_name p.name) (slice_get points number) ≡ Some key → name_in key ≡ (entry_at points number).name
key-name points number key encodable is =
    let h = HasPoint-key points number key encodable is in
    ap known_name h.read ∙ ap (λ (p : Point). p.name) (sym (get_or_from_slice_get points number h.point no_point h.here))
