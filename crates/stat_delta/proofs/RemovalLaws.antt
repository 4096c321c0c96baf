-- By how much the removal of versions of a key changes the statistics.
use Rattle.std.specs.Prelude.{◌≡◌, ℕ, Bool, true, false, ◌&&◌, not, List, [], ◌∷◌, ◌++◌, length, map, Some, None, option_map}
use Rattle.std.proofs.Common.{refl, sym, ap, ◌∙◌, append_assoc}
use Rattle.std.proofs.lemmas.List.{map-append}
use Rattle.mvcc_key.specs.Lists.{last, before_last}
use Rattle.mvcc_key.specs.Order.{is_same_key}
use Rattle.mvcc_key.specs.History.{intent_of}
use Rattle.mvcc_key.specs.Fragments.{stack_at}
use Rattle.mvcc_key.specs.Field.{Field}
use Rattle.mvcc_key.proofs.FilterLaws.{filter-twice}
use Rattle.stat_core.specs.DeadSince.{VersionShape, dead_since}
use Rattle.stat_core.specs.ComputeStats.{no_sums, ◌⊕◌, version_sums, versions_sums, KeyShape, own_sums, key_sums, difference}
use Rattle.stat_core.specs.Laws.{with_versions}
use Rattle.stat_core.proofs.SumLaws.{⊕_assoc, ⊕-no_sums, no_sums-⊕}
use Rattle.stat_core.proofs.NewVersionLaws.{key_sums-older}
use Rattle.stat_delta.specs.Shapes.{key_change, top_shape, version_shape, intent_shape}
use Rattle.stat_delta.specs.Removals.{change_by_collection, time_behind, VersionsInTwo, OldShapesGo, AllShapesGo, OldVersionsGo, WithoutVersions}
use Rattle.stat_delta.proofs.TopLaws.{stored_change-key}
use Rattle.stat_delta.proofs.ChangesOverLaws.{difference-common}

-- what versions add in two goes
pub versions_sums-append : VersionsInTwo
versions_sums-append now newer stack [] ws = sym (no_sums-⊕ (versions_sums now newer stack ws))
versions_sums-append now newer stack (v ∷ vs) ws =
    ap (λ s. version_sums now (dead_since newer stack v) v ⊕ s) (versions_sums-append now (Some v.ts) stack vs ws)
    ∙ sym (⊕_assoc (version_sums now (dead_since newer stack v) v) (versions_sums now (Some v.ts) stack vs) (versions_sums now (time_behind (Some v.ts) vs) stack ws))

-- a list with a last element is those before it and this
last-parts : {X : Type 0} (xs : List X) (x : X) → last xs ≡ Some x → xs ≡ before_last xs ++ x ∷ []
last-parts [] x e = cc
last-parts (y ∷ []) x e = let same : y ≡ x = cc in ap (λ z. z ∷ []) same
last-parts (y ∷ z ∷ zs) x e = ap (λ ys. y ∷ ys) (last-parts (z ∷ zs) x e)

-- a key without the versions behind one of its versions
difference-old : (now : ℕ) (k : KeyShape) (kept gone : List VersionShape) (old : VersionShape) (f : Field) → last kept ≡ Some old
    → difference (key_sums now (with_versions k (kept ++ gone))) (key_sums now (with_versions k kept)) f ≡ change_by_collection now old.ts k.stack gone f
difference-old now k kept gone old f is =
    (λ i. difference (whole i) (fewer i) f)
    ∙ difference-common (key_sums now (with_versions k (before_last kept ++ old ∷ []))) (versions_sums now (Some old.ts) k.stack gone) no_sums f
  where
    whole : key_sums now (with_versions k (kept ++ gone)) ≡ key_sums now (with_versions k (before_last kept ++ old ∷ [])) ⊕ versions_sums now (Some old.ts) k.stack gone
    whole =
        ap (λ vs. key_sums now (with_versions k (vs ++ gone))) (last-parts kept old is)
        ∙ ap (λ vs. key_sums now (with_versions k vs)) (append_assoc (before_last kept) (old ∷ []) gone)
        ∙ key_sums-older now k (before_last kept) old gone

    fewer : key_sums now (with_versions k kept) ≡ key_sums now (with_versions k (before_last kept ++ old ∷ [])) ⊕ no_sums
    fewer = ap (λ vs. key_sums now (with_versions k vs)) (last-parts kept old is) ∙ sym (⊕-no_sums (key_sums now (with_versions k (before_last kept ++ old ∷ []))))

-- versions go that stood behind one that stays
pub change_by_collection-shapes : OldShapesGo
change_by_collection-shapes now key_length stack None [] gone old f is = cc
change_by_collection-shapes now key_length stack None (v ∷ kept) gone old f is =
    difference-old now (record { key_length = key_length; record_length = 0; intent = None; versions = []; stack = stack }) (v ∷ kept) gone old f is
change_by_collection-shapes now key_length stack (Some i) kept gone old f is =
    difference-old now (record { key_length = key_length; record_length = i.record_length; intent = Some (i.provisional).ts; versions = []; stack = stack })
    (i.provisional ∷ kept) gone old f is

-- all versions of a key without an intent go
pub key_change-all : AllShapesGo
unfolding key_sums
key_change-all now key_length stack v vs f =
    ap (λ s. difference (s ⊕ versions_sums now None stack (v ∷ vs)) no_sums f)
    (⊕-no_sums (own_sums now (record { key_length = key_length; record_length = 0; intent = None; versions = v ∷ vs; stack = stack }) (dead_since None stack v)))

-- the same for what is stored
pub stored_change-collection : OldVersionsGo
stored_change-collection now h h' fs key kept gone old f valid valid' same intent own own' is =
    stored_change-key now h h' fs key f valid valid' same
    ∙ (λ i. key_change now (top_shape (length key) (stack_at fs key) (option_map intent_shape (intent_of key h)) (map version_shape (own i)))
    (top_shape (length key) (stack_at fs key) (option_map intent_shape (intent i)) (map version_shape (own' i))) f)
    ∙ ap (λ vs. key_change now (top_shape (length key) (stack_at fs key) (option_map intent_shape (intent_of key h)) vs)
    (top_shape (length key) (stack_at fs key) (option_map intent_shape (intent_of key h)) (map version_shape kept)) f) (map-append version_shape kept gone)
    ∙ change_by_collection-shapes now (length key) (stack_at fs key) (option_map intent_shape (intent_of key h)) (map version_shape kept) (map version_shape gone) old f is

-- the other keys stay, and of the key those versions that fail the test
pub without_versions-leaves : WithoutVersions
without_versions-leaves key test h = (
  record {
    versions = filter-twice (λ v. not (is_same_key v.key key)) (λ v. not (is_same_key v.key key && test v.ts)) (λ v. not (is_same_key v.key key)) h.versions
        (λ v. others (is_same_key v.key key) (test v.ts));
    intents = refl;
  },
  filter-twice (λ v. is_same_key v.key key) (λ v. not (is_same_key v.key key && test v.ts)) (λ v. is_same_key v.key key && not (test v.ts)) h.versions
      (λ v. own (is_same_key v.key key) (test v.ts))
      ∙ sym (filter-twice (λ v. not (test v.ts)) (λ v. is_same_key v.key key) (λ v. is_same_key v.key key && not (test v.ts)) h.versions (λ v. refl)),
)
  where
    others : (s t : Bool) → (not (s && t) && not s) ≡ not s
    others true true = refl
    others true false = refl
    others false t = refl

    own : (s t : Bool) → (not (s && t) && s) ≡ (s && not t)
    own true true = refl
    own true false = refl
    own false t = refl
