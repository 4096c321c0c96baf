-- The plan of the resolution of the intent that the cursor tells.
use Rattle.std.specs.Prelude.{Err, is_some, length}
use Rattle.std.proofs.Common.{sym, ap, subst, ◌∙◌}
use Rattle.std.proofs.lemmas.Result.{err_from_is_err_and}
use Rattle.mvcc_key.specs.Order.{is_no_time}
use Rattle.intent_meta.specs.Valid.{IsStoredKey}
use Rattle.intent_meta.specs.views.Lent.{LentIntent}
use Rattle.intent_meta.proofs.ChangedLaws.{intent_of-stored}
use Rattle.intent_meta.proofs.ReadBackLaws.{stored_timed}
use Rattle.mvcc_key.proofs.HistoryLaws.{intent_of-key}
use Rattle.mvcc_cursor.specs.Standing.{told}
use Rattle.mvcc_cursor.specs.WellFormed.{history_in}
use Rattle.mvcc_cursor.specs.views.Seen.{seen}
use Rattle.intent_resolve.specs.views.KeyPlan.{PlansKey}
use Rattle.intent_resolve.specs.views.Own.{IsLentOf}
use Rattle.intent_resolve.specs.views.Left.{left_points, IsStorableLeft, seen_left}
use Rattle.intent_resolve.specs.views.Seen.{update_of}
use Rattle.intent_resolve.specs.views.Front.{front_left}
use Rattle.intent_resolve.proofs.ChangeLaws.{front-left}
use Rattle.intent_resolve.proofs.LookLaws.{own_of, whole-here}
use Rattle.intent_resolve.proofs.PlanLaws.{is_at, intent-there}
use Rattle.intent_resolve.proofs.StoreLaws.{left-storable, refused-here}
use Rattle.intent_resolve.proofs.key_plan.plan_here.Goals as goal

pub key_here-key-requires-clause-there : goal.key_here-key-requires-clause-there
key_here-key-requires-clause-there c = let own = own_of (update_of c.args.update.now) (told (seen c.args.cursor.now)).intent c.requires.own in ap is_some own.is

pub own_here-own-requires : goal.own_here-own-requires
own_here-own-requires c = let own = own_of (update_of c.args.update.now) (told (seen c.args.cursor.now)).intent c.requires.own in ap is_some own.is

pub resolve_intent-requires : goal.resolve_intent-requires
resolve_intent-requires c =
    let s = seen c.args.cursor.now in
    let own = own_of (update_of c.args.update.now) (told s).intent c.requires.own in
    let i = own.intent in
    let place = is_at s i own.is in
    let was = intent-there s place.key i place.at own.is in
    let valid = (c.requires.formed).valid in
    record {
      intent = i;
      is = record {
        lent = c.own_here-own.ensures.lent i own.is;
        local = c.own_here-own.ensures.local ∙ (c.requires.looked).local place.key i place.at was;
        whole = whole-here (history_in s.store) place.key i valid was;
      };
      entries = (intent_of-stored place.key (history_in s.store) i valid was).entries;
    }

pub resolution_points-requires-clause-key : goal.resolution_points-requires-clause-key
resolution_points-requires-clause-key c =
    let s = seen c.args.cursor.now in
    let own = own_of (update_of c.args.update.now) (told s).intent c.requires.own in
    let place = is_at s own.intent own.is in
    let was = intent-there s place.key own.intent place.at own.is in
    let stored = intent_of-stored place.key (history_in s.store) own.intent (c.requires.formed).valid was in
    subst IsStoredKey (intent_of-key place.key (history_in s.store) own.intent was ∙ sym (c.key_here-key.ensures place.key place.at)) stored.key

pub resolution_points-requires-clause-time : goal.resolution_points-requires-clause-time
resolution_points-requires-clause-time c =
    let s = seen c.args.cursor.now in
    let own = own_of (update_of c.args.update.now) (told s).intent c.requires.own in
    let place = is_at s own.intent own.is in
    let was = intent-there s place.key own.intent place.at own.is in
    let stored = intent_of-stored place.key (history_in s.store) own.intent (c.requires.formed).valid was in
    ap is_no_time (c.ts.ensures ∙ ap (λ (l : LentIntent). l.head.ts) (c.own_here-own.ensures.lent own.intent own.is)) ∙ stored_timed (own.intent).ts stored.ts

pub resolution_points-requires-clause-storable : goal.resolution_points-requires-clause-storable
resolution_points-requires-clause-storable c =
    let s = seen c.args.cursor.now in
    let u = update_of c.args.update.now in
    let own = own_of u (told s).intent c.requires.own in
    let i = own.intent in
    let place = is_at s i own.is in
    let was = intent-there s place.key i place.at own.is in
    let valid = (c.requires.formed).valid in
    let lent = c.own_here-own.ensures.lent i own.is in
    let of : IsLentOf c.own_here-own.result i = record { lent = lent; local = c.own_here-own.ensures.local ∙ (c.requires.looked).local place.key i place.at was; whole = whole-here (history_in s.store) place.key i valid was } in
    let times = c.ts.ensures ∙ ap (λ (l : LentIntent). l.head.ts) lent in
    subst (λ t. IsStorableLeft t (seen_left c.in_ok-what.what)) (sym times)
    (left-storable (history_in s.store) place.key u i (seen_left c.in_ok-what.what) valid was c.fits_time.ensures (c.in_ok-what.ensures i of))

pub returns : goal.returns
returns c = λ key at.
    let s = seen c.args.cursor.now in
    let u = update_of c.args.update.now in
    let own = own_of u (told s).intent c.requires.own in
    let i = own.intent in
    let was = intent-there s key i at own.is in
    let valid = (c.requires.formed).valid in
    let lent = c.own_here-own.ensures.lent i own.is in
    let of : IsLentOf c.own_here-own.result i = record { lent = lent; local = c.own_here-own.ensures.local ∙ (c.requires.looked).local key i at was; whole = whole-here (history_in s.store) key i valid was } in
    let ruled = c.in_ok-what.ensures i of in
    let times = c.ts.ensures ∙ ap (λ (l : LentIntent). l.head.ts) lent in
    let keys = c.key_here-key.ensures key at in
    record {
      intent = i;
      was = was;
      own = own.own;
      fits = c.fits_time.ensures;
      resolution_is = ruled.resolution_is;
      resolves = ruled.resolves;
      points = c.in_ok-points.ensures.points ∙ λ j. left_points (keys j) (times j) (ruled.left_is j);
      entries = c.in_ok-points.ensures.batch;
      top = c.top_here-top.ensures key at (ap length keys) c.requires.formed;
      left = c.left_in_front-left.ensures ∙ ap front_left ruled.left_is ∙ front-left ruled.resolution_is;
    }

pub returns-in_err-what : goal.returns-in_err-what
returns-in_err-what c = λ key at.
    let s = seen c.args.cursor.now in
    let u = update_of c.args.update.now in
    let own = own_of u (told s).intent c.requires.own in
    let i = own.intent in
    let was = intent-there s key i at own.is in
    let valid = (c.requires.formed).valid in
    let of : IsLentOf c.own_here-own.result i = record { lent = c.own_here-own.ensures.lent i own.is; local = c.own_here-own.ensures.local ∙ (c.requires.looked).local key i at was; whole = whole-here (history_in s.store) key i valid was } in
    let p = err_from_is_err_and c.from_residual.result c.from_residual.ensures.1 in
    let why = c.in_err-what.field-0.0 in
    subst (λ r. PlansKey r (history_in s.store) key u) (sym (p.1 ∙ ap Err p.2)) (refused-here (history_in s.store) key u i why was own.own (c.in_err-what.ensures i of))
