-- Ranges of sequences, one after another.
use Rattle.std.specs.Prelude.{◌≡◌, ℕ, List, [], ◌∷◌, ◌++◌, take, position, Option, Some, None, option_map, ◌==◌}
use Rattle.std.proofs.Common.{refl, sym, ap, ◌∙◌, append_assoc}
use Rattle.std.proofs.lemmas.List.{map-append}
use Rattle.mvcc_key.specs.Cutting.{pieces, cut_at}
use Rattle.mvcc_key.specs.History as history
use Rattle.mvcc_key.specs.views.Seen.{range_of}
use Rattle.mvcc_key.specs.declared.span.SeqRange.{SeqRange}
use Rattle.txn_state.specs.views.Seen.{ranges_of}
use Rattle.script_words.specs.declared.fault.LineFault.{LineFault}
use Rattle.script_words.specs.declared.fault.LineFault.TheVariants as fault
use Rattle.script_words.specs.Forms.{◌>>=◌, each, range, ranges}
use Rattle.script_words.specs.views.Reading.{Fails}
use Rattle.script_words.proofs.CutLaws.{pieces-cut, pieces-uncut, cut_at-Some, cut_at-None, cut_at-first, cut_at-whole}

-- the pieces of what stands behind a cut
abbrev pub pieces_behind : ℕ → Option (List ℕ) → List (List ℕ)
pieces_behind byte None = []
pieces_behind byte (Some bytes) = pieces (λ b. b == byte) bytes

-- the pieces are what stands before the first cut, and those behind it
pub pieces-first : (byte : ℕ) (xs : List ℕ) → pieces (λ b. b == byte) xs ≡ (cut_at byte xs).before ∷ pieces_behind byte (cut_at byte xs).after
pieces-first byte xs = by (position (λ b. b == byte) xs) refl
  where
    by : (o : Option ℕ) → position (λ b. b == byte) xs ≡ o → pieces (λ b. b == byte) xs ≡ (cut_at byte xs).before ∷ pieces_behind byte (cut_at byte xs).after
    by None none = pieces-uncut (λ b. b == byte) xs none ∙ sym (ap (λ f. f ∷ pieces_behind byte (cut_at byte xs).after) (cut_at-whole byte xs none) ∙ ap (λ a. xs ∷ pieces_behind byte a) (cut_at-None byte xs none))
    by (Some i) at = pieces-cut (λ b. b == byte) xs i at ∙ sym (ap (λ f. f ∷ pieces_behind byte (cut_at byte xs).after) (cut_at-first byte xs i at) ∙ ap (λ a. take i xs ∷ pieces_behind byte a) (cut_at-Some byte xs i at))

-- the ranges of what is left, or none where nothing is
abbrev pub ranges_left : Option (List ℕ) → Option (List history.SeqRange)
ranges_left rest = each range (pieces_behind 0x2c rest)

prefixed : (so more : List history.SeqRange) (r : history.SeqRange) → so ++ (r ∷ more) ≡ (so ++ r ∷ []) ++ more
prefixed so more r = sym (append_assoc so (r ∷ []) more)

-- the first range comes to those before it
pub ranges-more : (so : List SeqRange) (r : SeqRange) (listed : List ℕ) → range (cut_at 0x2c listed).before ≡ Some (range_of r)
    → option_map (λ more. ranges_of so ++ more) (ranges_left (Some listed)) ≡ option_map (λ more. ranges_of (so ++ r ∷ []) ++ more) (ranges_left (cut_at 0x2c listed).after)
ranges-more so r listed is =
    ap (λ ps. option_map (λ more. ranges_of so ++ more) (each range ps)) (pieces-first 0x2c listed)
    ∙ ap (λ o. option_map (λ more. ranges_of so ++ more) (o >>= λ y. ranges_left (cut_at 0x2c listed).after >>= λ ys. Some (y ∷ ys))) is
    ∙ by (ranges_left (cut_at 0x2c listed).after)
  where
    by : (o : Option (List history.SeqRange)) → option_map (λ more. ranges_of so ++ more) (o >>= λ ys. Some (range_of r ∷ ys)) ≡ option_map (λ more. ranges_of (so ++ r ∷ []) ++ more) o
    by None = refl
    by (Some more) = ap Some (prefixed (ranges_of so) more (range_of r) ∙ ap (λ l. l ++ more) (sym (map-append range_of so (r ∷ []))))

-- a first range without a reading leaves none
pub ranges-fail : (so : List SeqRange) (listed : List ℕ) → range (cut_at 0x2c listed).before ≡ None
    → option_map (λ more. ranges_of so ++ more) (ranges_left (Some listed)) ≡ None
ranges-fail so listed none =
    ap (λ ps. option_map (λ more. ranges_of so ++ more) (each range ps)) (pieces-first 0x2c listed)
    ∙ ap (λ o. option_map (λ more. ranges_of so ++ more) (o >>= λ y. ranges_left (cut_at 0x2c listed).after >>= λ ys. Some (y ∷ ys))) none

-- a fault of the first range is one of all
pub ranges-Fails : (e : LineFault) (so : List SeqRange) (bytes listed : List ℕ)
    → ranges bytes ≡ option_map (λ more. ranges_of so ++ more) (ranges_left (Some listed)) → Fails e (range (cut_at 0x2c listed).before) → Fails e (ranges bytes)
ranges-Fails fault.OutOfMemory so bytes listed so_far fails = tt
ranges-Fails fault.BadLine so bytes listed so_far none = so_far ∙ ranges-fail so listed none
