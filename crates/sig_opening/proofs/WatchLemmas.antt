-- One watch after another, whatever a watch is.
use Rattle.std.proofs.Common.{◌≡◌, ◌≢◌, ◌∙◌, ℕ, ◌+◌, ◌<◌, Bool, true, false, List, [], ◌∷◌, ◌++◌, length, Option, Some, None, IfSome, if◌then◌else◌, inl, inr, refl, sym, ap, subst, arith, append_assoc, append-nil, length-append}
use Rattle.std.specs.Prelude.{IfNone, flat_map}
use Rattle.std.proofs.lemmas.List.Elements.{All-append, All-cons, All-nil}
use Rattle.sig_opening.specs.Watches.{Agree, AgreesBy, AreInRow, EndShut, GoesOn, RunsTo, Standing, StopsAt, Tells}
use Rattle.sig_opening.specs.Ends.{IsEndOfWatches}
use Rattle.sig_opening.specs.declared.ending.ServeEnd.{ServeEnd}
use Rattle.sig_opening.specs.declared.ending.ServeEnd.TheVariants.{Done, SettingsFailed, Refused, NoStore, StoreFailed, Damaged, NetworkFailed, Disagree, Memory}

-- ---- where nothing differs

pub agree_none : {W : Type 0} (tells : W → Tells) → Agree tells []
agree_none {W} tells = All-nil (λ (w : W). (tells w).differ ≡ None)

pub agree_one : {W : Type 0} (tells : W → Tells) (watch : W) → (tells watch).differ ≡ None → Agree tells (watch ∷ [])
agree_one {W} tells watch h = All-cons (λ (w : W). (tells w).differ ≡ None) watch [] h (agree_none tells)

-- ---- one watch

-- after a watch the run goes on
pub goes_on : {W M : Type 0} (is : W → M → M → Type 0) (tells : W → Tells) (old new : M) (watch : W) → is watch old new → (tells watch).differ ≡ None → GoesOn is tells old new
goes_on is tells old new watch h agrees = record { watch = watch; each = h; agrees = agrees }

-- or ends with it
pub stops_with : {W M : Type 0} (is : W → M → M → Type 0) (tells : W → Tells) (end : ServeEnd) (old new : M) (watch : W) → IsEndOfWatches end → end ≢ Memory → (end ≡ Done → (tells watch).shut ≡ true)
    → is watch old new → AgreesBy tells end (watch ∷ []) → StopsAt is tells end old new
stops_with is tells end old new watch kind not shut h agrees = record {
  watches = watch ∷ [];
  each = (new, h, refl);
  kind = kind;
  within = omega arith;
  done = λ done. record { before = []; last = watch; parts = refl; shut = shut done };
  memory = λ memory. absurd (not memory);
  agrees = agrees;
}

pub stops_before : {W M : Type 0} (is : W → M → M → Type 0) (tells : W → Tells) (old new : M) → new ≡ old → StopsAt is tells Memory old new
stops_before is tells old new same =
    record { watches = []; each = same; kind = tt; within = omega arith; done = λ done. absurd cc; memory = λ memory. refl; agrees = agree_none tells }

-- the end after a watch, by whether its door is shut
pub if_none : {T : Type 0} (o : Option T) (holds : Type 0) → holds → IfNone o holds
if_none None holds h = h
if_none (Some x) holds h = tt

pub if_shut : (shut : Bool) (o : Option ServeEnd) (holds : ServeEnd → Type 0) → o ≡ (if shut then Some Done else None) → (shut ≡ true → holds Done) → IfSome o holds
if_shut true o holds is h = subst (λ (p : Option ServeEnd). IfSome p holds) (sym is) (h refl)
if_shut false o holds is h = subst (λ (p : Option ServeEnd). IfSome p holds) (sym is) tt

-- what holds of an option that is known
pub at_some : {T : Type 0} (o : Option T) (x : T) (holds : T → Type 0) → o ≡ Some x → IfSome o holds → holds x
at_some {T = T} o x holds is h = subst (λ (p : Option T). IfSome p holds) is h

pub at_none : {T : Type 0} (o : Option T) (holds : Type 0) → o ≡ None → IfNone o holds → holds
at_none {T = T} o holds is h = subst (λ (p : Option T). IfNone p holds) is h

-- ---- all of them

pub rows_join : {W M : Type 0} (is : W → M → M → Type 0) (first second : List W) (a b c : M) → AreInRow is first a b → AreInRow is second b c → AreInRow is (first ++ second) a c
rows_join {M = M} is [] second a b c h k = subst (λ (m : M). AreInRow is second m c) h k
rows_join is (w ∷ first) second a b c h k = (h.0, h.1, rows_join is first second h.0 b c h.2 k)

rows_sum : {W S C : Type 0} (is : W → Standing S → Standing S → Type 0) (sum_of : S → List C → S) (changes : W → List C)
    → ((base : S) (first second : List C) → sum_of base (first ++ second) ≡ sum_of (sum_of base first) second)
    → ((w : W) (a b : Standing S) → is w a b → b.state ≡ sum_of a.state (changes w))
    → (watches : List W) (base : S) (done : List C) (a b : Standing S) → a.state ≡ sum_of base done → AreInRow is watches a b → b.state ≡ sum_of base (done ++ flat_map changes watches)
rows_sum {S = S} is sum_of changes joined states [] base done a b same h =
    ap (λ (s : Standing S). s.state) h ∙ same ∙ ap (sum_of base) (sym (append-nil done))
rows_sum {S = S} is sum_of changes joined states (w ∷ watches) base done a b same h =
    let next : h.0.state ≡ sum_of base (done ++ changes w) = states w a h.0 h.1 ∙ ap (λ (s : S). sum_of s (changes w)) same ∙ sym (joined base done (changes w)) in
    rows_sum is sum_of changes joined states watches base (done ++ changes w) h.0 b next h.2
    ∙ ap (sum_of base) (append_assoc done (changes w) (flat_map changes watches))

-- the state after watches is what the state before them comes to with their changes
pub rows_state : {W S C : Type 0} (is : W → Standing S → Standing S → Type 0) (sum_of : S → List C → S) (changes : W → List C)
    → ((base : S) (first second : List C) → sum_of base (first ++ second) ≡ sum_of (sum_of base first) second)
    → ((w : W) (a b : Standing S) → is w a b → b.state ≡ sum_of a.state (changes w))
    → (watches : List W) (a b : Standing S) → sum_of a.state [] ≡ a.state → AreInRow is watches a b → b.state ≡ sum_of a.state (flat_map changes watches)
rows_state is sum_of changes joined states watches a b none h = rows_sum is sum_of changes joined states watches a.state [] a b (sym none) h

-- both files are told after watches as before
pub rows_files : {W S : Type 0} (is : W → Standing S → Standing S → Type 0) → ((w : W) (a b : Standing S) → is w a b → b.files ≡ a.files)
    → (watches : List W) (a b : Standing S) → AreInRow is watches a b → b.files ≡ a.files
rows_files {S = S} is files [] a b h = ap (λ (s : Standing S). s.files) h
rows_files is files (w ∷ watches) a b h = rows_files is files watches h.0 b h.2 ∙ files w a h.0 h.1

-- ---- on the way

-- so many watches ran, and the run goes on
pub record Ran {W M : Type 0} (is : W → M → M → Type 0) (tells : W → Tells) (count : ℕ) (old new : M) : Type 0 where
  pub watches : List W
  pub each : AreInRow is watches old new
  pub counts : length watches ≡ count
  pub agree : Agree tells watches

pub ran_none : {W M : Type 0} (is : W → M → M → Type 0) (tells : W → Tells) (old : M) → Ran is tells 0 old old
ran_none is tells old = record { watches = []; each = refl; counts = refl; agree = agree_none tells }

-- by the rules of the node, which stay
pub ran_more : {R W M : Type 0} (is : R → W → M → M → Type 0) (tells : W → Tells) (rules now : R) (count : ℕ) (a b c : M) → now ≡ rules → Ran (is rules) tells count a b → GoesOn (is now) tells b c
    → Ran (is rules) tells (count + 1) a c
ran_more {R = R} {W = W} is tells rules now count a b c same h k = record {
  watches = h.watches ++ k.watch ∷ [];
  each = rows_join (is rules) h.watches (k.watch ∷ []) a b c h.each (c, subst (λ (r : R). is r k.watch b c) same k.each, refl);
  counts = omega (arith, length-append h.watches (k.watch ∷ []), h.counts);
  agree = All-append (λ (w : W). (tells w).differ ≡ None) h.watches (k.watch ∷ []) h.agree (agree_one tells k.watch k.agrees);
}

-- what differs in the last of further watches differs in the last of all
agree_after : {W : Type 0} (tells : W → Tells) (first second : List W) → Agree tells first → Agree tells second → Agree tells (first ++ second)
agree_after {W = W} tells first second one two = All-append (λ (w : W). (tells w).differ ≡ None) first second one two

agrees_after : {W : Type 0} (tells : W → Tells) (end : ServeEnd) (first second : List W) → Agree tells first → AgreesBy tells end second → AgreesBy tells end (first ++ second)
agrees_after tells Done first second one two = agree_after tells first second one two
agrees_after tells SettingsFailed first second one two = agree_after tells first second one two
agrees_after tells (Refused member) first second one two = agree_after tells first second one two
agrees_after tells NoStore first second one two = agree_after tells first second one two
agrees_after tells StoreFailed first second one two = agree_after tells first second one two
agrees_after tells (Damaged file at) first second one two = agree_after tells first second one two
agrees_after tells NetworkFailed first second one two = agree_after tells first second one two
agrees_after {W = W} tells (Disagree differ) first second one two = record {
  before = first ++ two.before;
  last = two.last;
  parts = ap (λ (l : List W). first ++ l) two.parts ∙ sym (append_assoc first two.before (two.last ∷ []));
  agree = agree_after tells first two.before one two.agree;
  differs = two.differs;
}
agrees_after tells Memory first second one two = agree_after tells first second one two

pub ran_to_stop : {R W M : Type 0} (is : R → W → M → M → Type 0) (tells : W → Tells) (rules now : R) (end : ServeEnd) (count asked : ℕ) (a b c : M) → now ≡ rules → count < asked
    → Ran (is rules) tells count a b → StopsAt (is now) tells end b c → RunsTo (is rules) tells end asked a c
ran_to_stop {R = R} {W = W} is tells rules now end count asked a b c same more h k = record {
  watches = h.watches ++ k.watches;
  each = rows_join (is rules) h.watches k.watches a b c h.each (subst (λ (r : R). AreInRow (is r) k.watches b c) same k.each);
  ends = record {
    kind = k.kind;
    within = omega (arith, more, h.counts, k.within, length-append h.watches k.watches);
    done = λ done. inr (shut_last tells h.watches k.watches (k.done done));
    memory = λ memory. fewer h.watches k.watches count asked more h.counts (k.memory memory);
    agrees = agrees_after tells end h.watches k.watches h.agree k.agrees;
  };
}
  where
    shut_last : {W : Type 0} (tells : W → Tells) (first second : List W) → EndShut tells second → EndShut tells (first ++ second)
    shut_last {W = W} tells first second e = record {
      before = first ++ e.before;
      last = e.last;
      parts = ap (λ (l : List W). first ++ l) e.parts ∙ sym (append_assoc first e.before (e.last ∷ []));
      shut = e.shut;
    }

    fewer : {W : Type 0} (first second : List W) (count asked : ℕ) → count < asked → length first ≡ count → second ≡ [] → length (first ++ second) < asked
    fewer {W = W} first second count asked more counts none = omega (arith, more, counts, length-append first second, ap (λ (l : List W). length l) none)

pub ran_all : {W M : Type 0} (is : W → M → M → Type 0) (tells : W → Tells) (asked : ℕ) (a b : M) → Ran is tells asked a b → RunsTo is tells Done asked a b
ran_all is tells asked a b h = record {
  watches = h.watches;
  each = h.each;
  ends = record { kind = tt; within = omega (arith, h.counts); done = λ done. inl h.counts; memory = λ memory. absurd cc; agrees = h.agree };
}
