-- Histories that are alike answer the resolution of intents alike, and stay alike.
use Rattle.std.specs.Prelude.{ℕ, true, List, [], ◌∷◌, length, filter, Option, Some, None, Result, Ok}
use Rattle.std.proofs.Common.{refl, subst}
use Rattle.mvcc_key.specs.Steps.{◌>>=◌, unless_fault}
use Rattle.mvcc_key.specs.Order.{Key}
use Rattle.mvcc_key.specs.Spans.{Ranged, is_bad_span}
use Rattle.mvcc_key.specs.History.{Intent, History, Changed, intent_of, intents_within}
use Rattle.mvcc_key.specs.Refusal.{Refusal, BadSpan}
use Rattle.intent_meta.specs.Alike.{AreAlike, EndAlike, ChangedAlike}
use Rattle.intent_meta.proofs.AlikeLaws.{intent_of-alike, intents_within-alike, with_version-alike, with_intent-alike, without_intent-alike}
use Rattle.intent_meta.proofs.EndLaws.{end-then, end-after}
use Rattle.intent_resolve.specs.Resolve.{Update, Resolution, Gone, Stays, Becomes, resolution, resolved, resolve_intent, is_of, resolve_found, of_update, resolve, resolve_each, first_of_max, rest_of_max, span_from, resolve_range}
use Rattle.intent_resolve.specs.Laws.{AlikeResolveAlike, AlikeRangeAlike}

module _ {h k : History} (a : AreAlike h k) where
  -- one resolution leaves them alike
  resolved-alike : (key : Key) (r : Resolution) → AreAlike (resolved key h r) (resolved key k r)
  resolved-alike key Gone = without_intent-alike a key
  resolved-alike key (Stays intent) = with_intent-alike a intent
  resolved-alike key (Becomes version) = with_version-alike (without_intent-alike a key) version

  -- the resolution of one intent leaves them alike
  pub resolve_intent-alike : (u : Update) (i : Intent) → EndAlike AreAlike (resolve_intent u h i) (resolve_intent u k i)
  unfolding resolve_intent
  resolve_intent-alike u i =
      end-after AreAlike {r = resolution u.status u i} refl (λ r. Ok (resolved i.key h r)) (λ r. Ok (resolved i.key k r)) (resolved-alike i.key)

  -- so does that of an intent that may be there
  resolve_found-alike : (u : Update) (found : Option Intent) → EndAlike ChangedAlike (resolve_found u h found) (resolve_found u k found)
  resolve_found-alike u None = record { history = a; answer = refl }
  resolve_found-alike u (Some i) =
      end-then AreAlike ChangedAlike (resolve_intent u h i) (resolve_intent u k i)
      (λ after. Ok (record { history = after; answer = true })) (λ after. Ok (record { history = after; answer = true }))
      (resolve_intent-alike u i) (λ x y b. record { history = b; answer = refl })

  -- the resolution of a key's intent is answered alike, and leaves them alike
  pub resolve-alike : (key : Key) (u : Update) → EndAlike ChangedAlike (resolve h key u) (resolve k key u)
  unfolding resolve
  resolve-alike key u =
      subst (λ i. EndAlike ChangedAlike (resolve h key u) (resolve_found u k (of_update u i))) (intent_of-alike a key)
      (resolve_found-alike u (of_update u (intent_of key h)))

-- intents resolved one after another leave them alike
pub resolve_each-alike : {h k : History} → AreAlike h k → (u : Update) (is : List Intent) → EndAlike AreAlike (resolve_each u h is) (resolve_each u k is)
unfolding resolve_each
resolve_each-alike a u [] = a
resolve_each-alike {h} {k} a u (i ∷ is) =
    end-then AreAlike AreAlike (resolve_intent u h i) (resolve_intent u k i)
    (λ after. resolve_each u after is) (λ after. resolve_each u after is)
    (resolve_intent-alike a u i) (λ x y b. resolve_each-alike b u is)

-- the resolution of a span's intents is answered alike, and leaves them alike
pub resolve_range-alike : {h k : History} → AreAlike h k → (start end : Key) (u : Update) (max : Option ℕ)
    → EndAlike ChangedAlike (resolve_range h start end u max) (resolve_range k start end u max)
unfolding resolve_range
resolve_range-alike {h} {k} a start end u max =
    end-after ChangedAlike {r = unless_fault (is_bad_span start end) BadSpan start} refl _ _ (λ span.
    subst (λ is. EndAlike ChangedAlike (of_own h (filter (is_of u) (intents_within start end h))) (of_own k (filter (is_of u) is)))
    (intents_within-alike a start end)
    (by (filter (is_of u) (intents_within start end h))))
  where
    done : List Intent → History → Result (Changed Ranged) Refusal
    done own after =
        Ok (record { history = after; answer = record { count = length (first_of_max max own); resume = span_from end (rest_of_max max own) } })

    of_own : History → List Intent → Result (Changed Ranged) Refusal
    of_own x own = resolve_each u x (first_of_max max own) >>= done own

    by : (own : List Intent) → EndAlike ChangedAlike (of_own h own) (of_own k own)
    by own =
        end-then AreAlike ChangedAlike (resolve_each u h (first_of_max max own)) (resolve_each u k (first_of_max max own)) (done own) (done own)
        (resolve_each-alike a u (first_of_max max own)) (λ x y b. record { history = b; answer = refl })

-- the same of any two histories that are alike
pub alike_resolve_alike : AlikeResolveAlike
alike_resolve_alike h k a = resolve-alike a

pub alike_range_alike : AlikeRangeAlike
alike_range_alike h k a = resolve_range-alike a
