-- What a look comes to is what the read answers.
use Rattle.std.specs.Prelude.{◌≡◌, Some, None, Ok, Err}
use Rattle.std.specs.Option.{option_map}
use Rattle.std.proofs.Common.{sym, ap, subst, ◌∙◌}
use Rattle.mvcc_key.specs.Refusal as refusal
use Rattle.mvcc_key.specs.views.Seen.{time_of}
use Rattle.mvcc_value.specs.views.Seen.{found_of, owned_body}
use Rattle.intent_meta.specs.KeyHistory.{key_history}
use Rattle.mvcc_scan.specs.views.Kept.{IsKept, listed_as, row_with}
use Rattle.mvcc_scan.proofs.GetLaws.{get-looked, get-refused}
use Rattle.mvcc_scan.proofs.get.answer.Goals as goal

pub returns-in_ok-found_with-in-Row : goal.returns-in_ok-found_with-in-Row
returns-in_ok-found_with-in-Row c = λ h r good looked.
    let key = c.args.key.now in
    let row = row_with key c.in-Row.value (time_of c.in-Row.ts) c.in-Row.field-2 in
    let key_is : Some (row.found) ≡ option_map found_of (Some (record { key = c.in_ok-key_of_row-in-Row.key_of_row; value = c.in-Row.value; ts = c.in-Row.ts })) =
    λ j. Some (record { key = sym c.in_ok-key_of_row-in-Row.ensures j; body = owned_body c.in-Row.value; ts = time_of c.in-Row.ts }) in
    get-looked h r key good (Ok (Some row)) (subst (IsKept r (key_history key h)) c.in-Row.is looked.kept) (listed_as key c.args.looked.listed) looked.listed
    ∙ (λ j. Ok (record {
      found = (key_is ∙ ap (option_map found_of) (sym c.in_ok-found_with-in-Row.ensures.found)) j;
      intents = sym c.in_ok-found_with-in-Row.ensures.intents j;
    }))

pub returns-in_ok-found_with-in-Nothing : goal.returns-in_ok-found_with-in-Nothing
returns-in_ok-found_with-in-Nothing c = λ h r good looked.
    let key = c.args.key.now in
    get-looked h r key good (Ok None) (subst (IsKept r (key_history key h)) c.in-Nothing.is looked.kept) (listed_as key c.args.looked.listed) looked.listed
    ∙ (λ j. Ok (record {
      found = option_map found_of (sym c.in_ok-found_with-in-Nothing.ensures.found j);
      intents = sym c.in_ok-found_with-in-Nothing.ensures.intents j;
    }))

pub returns-in_ok-listed-in-Conflict : goal.returns-in_ok-listed-in-Conflict
returns-in_ok-listed-in-Conflict c = λ h r good looked.
    let key = c.args.key.now in
    get-refused h r key good _ (subst (IsKept r (key_history key h)) c.in-Conflict.is looked.kept)
    ∙ ap (λ intents. Err (refusal.Conflict intents)) (sym c.in_ok-listed-in-Conflict.ensures)

pub returns-in-Uncertain : goal.returns-in-Uncertain
returns-in-Uncertain c = λ h r good looked.
    get-refused h r c.args.key.now good _ (subst (IsKept r (key_history c.args.key.now h)) c.in-Uncertain.is looked.kept)

pub returns-in-TooOld : goal.returns-in-TooOld
returns-in-TooOld c = λ h r good looked.
    get-refused h r c.args.key.now good _ (subst (IsKept r (key_history c.args.key.now h)) c.in-TooOld.is looked.kept)

pub returns-in-EpochFault : goal.returns-in-EpochFault
returns-in-EpochFault c = λ h r good looked.
    get-refused h r c.args.key.now good _ (subst (IsKept r (key_history c.args.key.now h)) c.in-EpochFault.is looked.kept)
