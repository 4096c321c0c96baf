-- What is gathered with one plan more.
use Rattle.std.specs.Prelude.{◌≡◌, ℕ, ◌+◌, ◌+ℤ◌, ◌||◌, List, [], ◌∷◌, ◌++◌}
use Rattle.std.proofs.Common.{refl, sym, ap, ◌∙◌, arith}
use Rattle.mvcc_key.specs.Field.{Field}
use Rattle.mvcc_key.specs.Order.{Key}
use Rattle.mvcc_key.specs.History.{History, Intent, intent_of}
use Rattle.mvcc_key.specs.views.SeenPoint.{points_of}
use Rattle.mvcc_key.proofs.HistoryLaws.{intent_of-key}
use Rattle.stat_core.specs.views.Seen.{number}
use Rattle.key_top.specs.Top.{front_change, top_in}
use Rattle.key_top.specs.views.Seen.{seen_front, seen_top}
use Rattle.key_top.proofs.GatheringLaws.{points-append}
use Rattle.intent_resolve.specs.Resolve.{Update, Resolution, Gone, Stays, Becomes}
use Rattle.intent_resolve.specs.views.Front.{front_by, is_front}
use Rattle.intent_resolve.specs.views.Left.{left_by, left_points}
use Rattle.intent_resolve.specs.views.KeyPlan.{IsKeyPlan}
use Rattle.intent_resolve.specs.views.Gathered.{Done, IsGathered, IsGatheredWith, is_left}
use Rattle.intent_resolve.specs.declared.gathered.Gathered.{Gathered}
use Rattle.intent_resolve.specs.declared.key_plan.KeyPlan.{KeyPlan}

-- something is left where something stands in front
front-is_left : (r : Resolution) → is_front (front_by r) ≡ is_left r
front-is_left Gone = refl
front-is_left (Stays n) = refl
front-is_left (Becomes v) = refl

-- what one plan more makes of what was gathered
pub record IsAdded (plan : KeyPlan) (old new : Gathered) : Type 0 where
  pub points : new.batch.points ≡ old.batch.points ++ plan.points
  pub ranges : new.batch.ranges ≡ old.batch.ranges
  pub last_is : new.last ≡ old.last
  pub later_is : new.later ≡ old.later
  pub still : (f : Field) → number f new.still ≡ number f old.still +ℤ front_change old.last (seen_top plan.top) (seen_front plan.left) f
  pub moved : (f : Field) → number f new.moved ≡ number f old.moved +ℤ front_change old.later (seen_top plan.top) (seen_front plan.left) f
  pub leaves : new.leaves ≡ (old.leaves || is_front (seen_front plan.left))
  pub count : new.count ≡ old.count + 1

-- it is gathered with the key's intent
pub added : (plan : KeyPlan) (old new : Gathered) → IsAdded plan old new → (h : History) (last : ℕ) (u : Update) (ds : List Done) (key : Key) → IsGathered h last u ds old → IsKeyPlan h key u plan
    → IsGatheredWith h last u ds key new
added plan old new a h last u ds key g is = record {
  done = d;
  was = is.was;
  is_done = record { own = record { there = ap (λ k. intent_of k h) same ∙ is.was; own = is.own }; resolves = is.resolves };
  gathered = record {
    points = ap points_of a.points ∙ points-append old.batch.points plan.points
        ∙ (λ j. g.points j ++ (is.points ∙ ap (λ (k : Key). left_points k i.ts (left_by r)) (sym same)) j);
    ranges = a.ranges ∙ g.ranges;
    last_is = a.last_is ∙ g.last_is;
    later_is = a.later_is ∙ g.later_is;
    still = λ f. a.still f ∙ (λ j. g.still f j +ℤ front_change (g.last_is j) (top j) (is.left j) f);
    moved = λ f. a.moved f ∙ (λ j. g.moved f j +ℤ front_change (g.later_is j) (top j) (is.left j) f);
    leaves = a.leaves ∙ (λ j. g.leaves j || (ap is_front is.left ∙ front-is_left r) j);
    count = (let one = a.count in let before = g.count in omega (arith, one, before));
  };
}
  where
    i : Intent
    i = is.intent

    r : Resolution
    r = is.resolution_is

    d : Done
    d = record { intent = i; resolution_is = r }

    same : i.key ≡ key
    same = intent_of-key key h i is.was

    top : seen_top plan.top ≡ top_in h i.key
    top = is.top ∙ ap (top_in h) (sym same)
