-- How contracts see the plan of one key's resolution.
use Rattle.std.specs.Prelude.{◌≡◌, true, Some, option_map, Result, Ok, Err}
use Rattle.mvcc_key.specs.Batches.{AreEntries}
use Rattle.mvcc_key.specs.Lists.{first}
use Rattle.mvcc_key.specs.Order.{Key, is_in_range}
use Rattle.mvcc_key.specs.History.{Intent, History, intent_of}
use Rattle.mvcc_key.specs.views.Seen.{time_of}
use Rattle.mvcc_key.specs.views.SeenPoint.{points_of}
use Rattle.stat_core.specs.views.Seen.{version_shape_of}
use Rattle.stat_delta.specs.Shapes.{version_shape}
use Rattle.write_rule.specs.views.Seen.{Tells}
use Rattle.key_top.specs.Top.{top_in}
use Rattle.key_top.specs.views.Seen.{seen_front, seen_top}
use Rattle.mvcc_cursor.specs.Standing.{Standing, AtKey, committed}
use Rattle.mvcc_cursor.specs.WellFormed.{history_in}
use Rattle.intent_resolve.specs.Resolve.{Update, Resolution, resolution, is_of, resolve}
use Rattle.intent_resolve.specs.views.Left.{left_by, left_points}
use Rattle.intent_resolve.specs.views.Seen.{refusal_of}
use Rattle.intent_resolve.specs.views.Front.{front_by}
use Rattle.intent_resolve.specs.declared.fault.ResolveFault.{ResolveFault}
use Rattle.intent_resolve.specs.declared.key_plan.KeyPlan.{KeyPlan}
use Rattle.intent_resolve.specs.declared.key_plan.Looked.{Looked}

-- these are the local timestamp of the intent of the key at which it stands, if it has one, and the key's newest committed version
pub record IsLooked (s : Standing) (looked : Looked) : Type 0 where
  pub local : (key : Key) (i : Intent) → s.at ≡ AtKey key → intent_of key (history_in s.store) ≡ Some i → time_of looked.local ≡ i.local
  pub newest : option_map version_shape_of looked.newest ≡ option_map version_shape (first (committed s))

-- the key has an intent of the transaction, and the plan is that of its resolution
pub record IsKeyPlan (h : History) (key : Key) (u : Update) (plan : KeyPlan) : Type 0 where
  pub intent : Intent
  pub was : intent_of key h ≡ Some intent
  pub own : is_of u intent ≡ true
  pub fits : is_in_range u.ts ≡ true
  pub resolution_is : Resolution
  pub resolves : resolution u.status u intent ≡ Ok resolution_is
  pub points : points_of plan.points ≡ left_points key intent.ts (left_by resolution_is)
  pub entries : AreEntries plan.points
  pub top : seen_top plan.top ≡ top_in h key
  pub left : seen_front plan.left ≡ front_by resolution_is

-- it is planned so, or refused with the rule's refusal; nothing is said where memory was wanting
abbrev pub PlansKey : Result KeyPlan ResolveFault → History → Key → Update → Type 0
PlansKey (Ok plan) h key u = IsKeyPlan h key u plan
PlansKey (Err why) h key u = Tells (refusal_of why) (resolve h key u)
