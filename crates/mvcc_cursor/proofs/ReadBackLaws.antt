-- A store of a valid history is well formed for the history that it is read back as.
use Rattle.std.proofs.Common.{◌≡◌, List, sym, subst, refl, ◌∙◌}
use Rattle.mvcc_key.specs.History.{History}
use Rattle.mvcc_key.specs.Points.{Point}
use Rattle.mvcc_key.specs.Fragments.{Fragment}
use Rattle.mvcc_key.proofs.TombstonesOfLaws.{fragments-again}
use Rattle.intent_meta.specs.StoredPairs.{stored_pairs}
use Rattle.intent_meta.specs.HistoryOf.{history_of}
use Rattle.intent_meta.specs.ReadBack.{in_fragment_order}
use Rattle.intent_meta.proofs.ReadBackLaws.{history_of-stored_pairs}
use Rattle.intent_meta.proofs.WithinLaws.{read_back_is_valid}
use Rattle.mvcc_cursor.specs.WellFormed.{HistoriesAreReadBack, IsOfHistory, history_from}

-- the history is read back with its tombstones in the order of their fragments
pub history_from-of : (h : History) (points : List Point) (fs : List Fragment) → IsOfHistory h points fs → history_from points fs ≡ in_fragment_order h
history_from-of h points fs of = (λ i. history_of (of.pairs i) (of.fragments i)) ∙ history_of-stored_pairs h of.valid

-- in the order of its fragments it has the same pairs
stored_pairs-order : (h : History) → stored_pairs (in_fragment_order h) ≡ stored_pairs h
unfolding stored_pairs
stored_pairs-order h = refl

pub histories-read : HistoriesAreReadBack
histories-read h points fs of = subst (λ g. IsOfHistory g points fs) (sym (history_from-of h points fs of)) (record {
  valid = read_back_is_valid h of.valid;
  pairs = of.pairs ∙ sym (stored_pairs-order h);
  fragments = of.fragments ∙ sym (fragments-again h.tombstones);
})
