-- What commands end in, and two commands that go the same steps.
use Rattle.std.specs.Prelude.{◌≡◌, List, [], ◌∷◌, map, Bool, true, false, not, Result, Ok, Err, ⊤}
use Rattle.std.proofs.Common.{refl, ap, subst}
use Rattle.mvcc_key.specs.Lists.{is_empty}
use Rattle.mvcc_key.specs.Steps.{◌>>=◌, unless_fault}
use Rattle.mvcc_key.specs.Order.{Timestamp}
use Rattle.mvcc_key.specs.History.{Intent}
use Rattle.mvcc_key.specs.Refusal.{seen, Refusal, Conflict, unless_conflict, unless_too_old}
use Rattle.intent_meta.specs.Alike.{EndAlike}

-- ---- one command

-- where there is a result, the property holds of it
abbrev pub EndsIn : {A E : Type 0} → (A → Type 0) → Result A E → Type 0
EndsIn P (Ok a) = P a
EndsIn P (Err e) = ⊤

module _ {A B E : Type 0} (P : A → Type 0) (Q : B → Type 0) where
  -- one step after another
  pub ends-then : (r : Result A E) (f : A → Result B E) → EndsIn P r → ((a : A) → P a → EndsIn Q (f a)) → EndsIn Q (r >>= f)
  ends-then (Ok a) f p next = next a p
  ends-then (Err e) f p next = tt

module _ {A B E : Type 0} (Q : B → Type 0) where
  -- after any step
  pub ends-after : (r : Result A E) (f : A → Result B E) → ((a : A) → EndsIn Q (f a)) → EndsIn Q (r >>= f)
  ends-after (Ok a) f next = next a
  ends-after (Err e) f next = tt

-- behind a test that is to pass
pub ends-unless : {A E : Type 0} (P : A → Type 0) (test : Bool) (why : E) (a : A) → (test ≡ false → P a) → EndsIn P (unless_fault test why a)
ends-unless P true why a p = tt
ends-unless P false why a p = p refl

-- ---- two commands

-- what ends alike with the same is the same
pub end-same : {A : Type 0} (r s : Result A Refusal) → EndAlike (λ a b. a ≡ b) r s → r ≡ s
end-same (Ok a) (Ok b) same = ap Ok same
end-same (Err a) (Err b) same = ap Err same
end-same (Ok a) (Err b) same = absurd same
end-same (Err a) (Ok b) same = absurd same

-- behind steps that end alike, of which it is known how they ended
pub end-then_known : {A B : Type 0} (R : A → A → Type 0) (S : B → B → Type 0) (r s : Result A Refusal) (f g : A → Result B Refusal) → EndAlike R r s
    → ((a b : A) → r ≡ Ok a → s ≡ Ok b → R a b → EndAlike S (f a) (g b)) → EndAlike S (r >>= f) (s >>= g)
end-then_known R S (Ok a) (Ok b) f g same next = next a b refl refl same
end-then_known R S (Err a) (Err b) f g same next = same
end-then_known R S (Ok a) (Err b) f g same next = absurd same
end-then_known R S (Err a) (Ok b) f g same next = absurd same

-- behind steps that end alike
pub end-then : {A B : Type 0} (R : A → A → Type 0) (S : B → B → Type 0) (r s : Result A Refusal) (f g : A → Result B Refusal)
    → EndAlike R r s → ((a b : A) → R a b → EndAlike S (f a) (g b)) → EndAlike S (r >>= f) (s >>= g)
end-then R S r s f g same next = end-then_known R S r s f g same (λ a b e h. next a b)

-- after steps that end the same
pub end-after : {A B : Type 0} (S : B → B → Type 0) {r s : Result A Refusal} → r ≡ s → (f g : A → Result B Refusal)
    → ((a : A) → EndAlike S (f a) (g a)) → EndAlike S (r >>= f) (s >>= g)
end-after {A} S {r} same f g next = subst (λ s. EndAlike S (r >>= f) (s >>= g)) same (by r)
  where
    by : (t : Result A Refusal) → EndAlike S (t >>= f) (t >>= g)
    by (Ok a) = next a
    by (Err e) = refl

-- behind one and the same test
pub end-unless : {A B : Type 0} (S : B → B → Type 0) (test : Bool) (why : Refusal) (a b : A) (f g : A → Result B Refusal)
    → (test ≡ false → EndAlike S (f a) (g b)) → EndAlike S (unless_fault test why a >>= f) (unless_fault test why b >>= g)
end-unless S true why a b f g next = refl
end-unless S false why a b f g next = next refl

-- where the same intents may be in the way
pub end-unless_conflict : {A B : Type 0} (S : B → B → Type 0) {is js : List Intent} → is ≡ js → (a b : A) (f g : A → Result B Refusal)
    → EndAlike S (f a) (g b) → EndAlike S (unless_conflict is a >>= f) (unless_conflict js b >>= g)
end-unless_conflict S {is} same a b f g next =
    subst (λ js. EndAlike S (unless_conflict is a >>= f) (unless_conflict js b >>= g)) same
    (end-unless S (not (is_empty is)) (Conflict (map seen is)) a b f g (λ free. next))

-- where the same timestamps may be in the way
pub end-unless_too_old : {A B : Type 0} (S : B → B → Type 0) {ss ts : List Timestamp} → ss ≡ ts → (a b : A) (f g : A → Result B Refusal)
    → EndAlike S (f a) (g b) → EndAlike S (unless_too_old ss a >>= f) (unless_too_old ts b >>= g)
end-unless_too_old S {ss} same a b f g next = subst (λ ts. EndAlike S (unless_too_old ss a >>= f) (unless_too_old ts b >>= g)) same (by ss)
  where
    by : (times : List Timestamp) → EndAlike S (unless_too_old times a >>= f) (unless_too_old times b >>= g)
    by [] = next
    by (t ∷ times) = refl
