-- Why an attempt is late: by the first of its pushes that settled nothing.
use Rattle.std.proofs.Common.{◌≡◌, ◌⊎◌, ◌∙◌, sym, ap, subst, refl, ℕ, ◌&&◌, ◌||◌, Bool, true, false, List, [], ◌∷◌, ◌++◌, length, Result, Ok, Err, is_ok, is_none, inl, inr, arith, rules, add-one, ◌+◌, append-nil}
use Rattle.std.specs.Prelude.{⊤}
use Rattle.std.specs.List.{list_any}
use Rattle.std.proofs.lemmas.Bool.Decides.{nat_tests}
use Rattle.std.proofs.lemmas.List.Elements.{All-head, All-tail}
use Rattle.sig_journal.specs.declared.node_fault.NodeFault.{NodeFault}
use Rattle.sig_links.specs.Views.{SideView}
use Rattle.sig_outside.specs.Causes.{Raised, Rose}
use Rattle.sig_push.specs.Pushed.{Counts}
use Rattle.sig_push.specs.Targets.{lacks_gateway}
use Rattle.sig_push.specs.declared.fault.PushFault.{PushFault}
use Rattle.sig_push.specs.declared.fault.PushFault.TheVariants.{NoEndpoint, NoGateway, Dial, Link, NoResponse, Memory}
use Rattle.sig_terms.specs.declared.call.Call.{Call}
use Rattle.sig_terms.specs.declared.call.Call.TheVariants.{Settle}
use Rattle.sig_terms.specs.declared.call.Outcome.{Outcome}
use Rattle.sig_terms.specs.declared.call.Outcome.TheVariants.{Accepted, Reported, Keep}
use Rattle.sig_terms.specs.declared.rules.Rules.{Rules}
use Rattle.sig_terms.specs.declared.token.Token.{Token}
use Rattle.sig_txnode.specs.declared.turn.Turn.{Turn}
use Rattle.sig_round.specs.Delivered.{Settles}
use Rattle.sig_round.specs.Turns.{Asker}
use Rattle.sig_tick.specs.Bringing.{AreAnswered, Stops, are_settled, end_by, is_settling, settles_by}
use Rattle.sig_tick.specs.Laws.{HasCause, LateHaveCauses, is_silent, keeps, keeps_by, lacks_endpoint}

ok_no_push : (u : ⊤) (e : PushFault) (p : ◌≡◌ {A = Result ⊤ PushFault} (Ok u) (Err e)) → ⊥
ok_no_push u e p = cc

-- ---- tests of a list with one more

any_here : {X : Type 0} (p : X → Bool) (x : X) (xs : List X) → p x ≡ true → list_any p (x ∷ xs) ≡ true
any_here p x xs h = ap (λ (b : Bool). b || list_any p xs) h

any_there : {X : Type 0} (p : X → Bool) (x : X) (xs : List X) → list_any p xs ≡ true → list_any p (x ∷ xs) ≡ true
any_there {X} p x xs h = by (p x) refl
  where
    by : (b : Bool) → p x ≡ b → list_any p (x ∷ xs) ≡ true
    by true e = any_here p x xs e
    by false e = ap (λ (b : Bool). b || list_any p xs) e ∙ h

settled_more : (turn : Turn) (turns : List Turn) (n : ℕ) → is_settling turn ≡ true → are_settled n turns ≡ true → are_settled (n + 1) (turn ∷ turns) ≡ true
settled_more turn turns n one more = grind (arith, nat_tests, one, more)

-- ---- a push that had an answer

one_settles : (turn : Turn) (o : Outcome) (stream : List ℕ) (number : ℕ) → turn.call ≡ Settle stream number o → is_ok turn.result ≡ true
    → (is_settling turn ≡ true) ⊎ (keeps turn ≡ true)
one_settles turn Accepted stream number is ok = inl (ap (λ (c : Call). settles_by c && is_ok turn.result) is ∙ ok)
one_settles turn (Reported code) stream number is ok = inl (ap (λ (c : Call). settles_by c && is_ok turn.result) is ∙ ok)
one_settles turn Keep stream number is ok = inr (ap keeps_by is)

-- either each token was settled, or an outcome kept one
settled_or_kept : (rules : Rules) (by : Asker) (tokens : List Token) (results : List (Result Outcome PushFault)) (turns : List Turn) (u : ⊤)
    → Settles rules by tokens results turns (Ok u) → AreAnswered turns → (are_settled (length tokens) turns ≡ true) ⊎ (list_any keeps turns ≡ true)
settled_or_kept rules by [] results turns u s answered = inl (ap (λ (l : List Turn). are_settled 0 l) s.1)
settled_or_kept rules by (t ∷ ts) [] turns u s answered = absurd (ok_no_push u Memory s.1)
settled_or_kept rules by (t ∷ ts) (Err f ∷ rs) turns u s answered = absurd (ok_no_push u f s.3)
settled_or_kept rules by (t ∷ ts) (Ok o ∷ rs) [] u s answered = absurd (ok_no_push u Memory s.2)
settled_or_kept rules by (t ∷ ts) (Ok o ∷ rs) (turn ∷ turns) u s answered =
    first_and (one_settles turn o t.stream t.number (ap (λ (x : Turn). x.call) s.1.asked) (All-head (λ (x : Turn). is_ok x.result ≡ true) turn turns answered))
    (settled_or_kept rules by ts rs turns u s.2 (All-tail (λ (x : Turn). is_ok x.result ≡ true) turn turns answered))
  where
    first_and : (is_settling turn ≡ true) ⊎ (keeps turn ≡ true) → (are_settled (length ts) turns ≡ true) ⊎ (list_any keeps turns ≡ true)
        → (are_settled (length (t ∷ ts)) (turn ∷ turns) ≡ true) ⊎ (list_any keeps (turn ∷ turns) ≡ true)
    first_and (inr kept) others = inr (any_here keeps turn turns kept)
    first_and (inl settled) (inr kept) = inr (any_there keeps turn turns kept)
    first_and (inl settled) (inl more) = inl (subst (λ (n : ℕ). are_settled n (turn ∷ turns) ≡ true) (add-one (length ts)) (settled_more turn turns (length ts) settled more))

-- ---- a push that had none

-- the fault of the last push, and its token
record LastPush (rules : Rules) (tokens : List Token) (results : List (Result Outcome PushFault)) (fault : PushFault) : Type 0 where
  silent : is_silent (Err fault) ≡ true → list_any is_silent results ≡ true
  gateway : fault ≡ NoGateway → list_any (lacks_gateway rules) tokens ≡ true
  endpoint : fault ≡ NoEndpoint → list_any lacks_endpoint tokens ≡ true

last_push : (rules : Rules) (by : Asker) (tokens : List Token) (results : List (Result Outcome PushFault)) (turns : List Turn) (fault : PushFault)
    → Settles rules by tokens results turns (Err fault) → (fault ≡ Memory → ⊥) → LastPush rules tokens results fault
last_push rules by [] results turns fault s lives = absurd (no_end fault s.2 lives)
  where
    no_end : (f : PushFault) → (is_ok {T = ⊤} {E = PushFault} (Err f) ≡ true) ⊎ ◌≡◌ {A = Result ⊤ PushFault} (Err f) (Err Memory) → (f ≡ Memory → ⊥) → ⊥
    no_end f (inl h) lives = cc
    no_end f (inr h) lives = lives (cc)
last_push rules by (t ∷ ts) [] turns fault s lives = absurd (lives (is_memory fault s.1))
  where
    is_memory : (f : PushFault) → ◌≡◌ {A = Result ⊤ PushFault} (Err f) (Err Memory) → f ≡ Memory
    is_memory f h = cc
last_push rules by (t ∷ ts) (Err f ∷ rs) turns fault s lives =
    let same : f ≡ fault = same_fault f fault s.3 in
    record {
      silent = λ h. any_here is_silent (Err f) rs (ap (λ (x : PushFault). is_silent (Err x)) same ∙ h);
      gateway = λ h. any_here (lacks_gateway rules) t ts (s.0.no_gateway.0 (ap (λ (x : PushFault). Err x) (same ∙ h)));
      endpoint = λ h. any_here lacks_endpoint t ts (ap is_none (s.0.no_endpoint.0 (ap (λ (x : PushFault). Err x) (same ∙ h))));
    }
  where
    same_fault : (f g : PushFault) → ◌≡◌ {A = Result ⊤ PushFault} (Err g) (Err f) → f ≡ g
    same_fault f g h = cc
last_push rules by (t ∷ ts) (Ok o ∷ rs) [] fault s lives = absurd (lives (is_memory fault s.2))
  where
    is_memory : (f : PushFault) → ◌≡◌ {A = Result ⊤ PushFault} (Err f) (Err Memory) → f ≡ Memory
    is_memory f h = cc
last_push rules by (t ∷ ts) (Ok o ∷ rs) (turn ∷ turns) fault s lives =
    let p = last_push rules by ts rs turns fault s.2 lives in
    record {
      silent = λ h. any_there is_silent (Ok o) rs (p.silent h);
      gateway = λ h. any_there (lacks_gateway rules) t ts (p.gateway h);
      endpoint = λ h. any_there lacks_endpoint t ts (p.endpoint h);
    }

-- ---- the attempt

any_front : {X : Type 0} (p : X → Bool) (xs ys zs : List X) → zs ≡ xs ++ ys → list_any p xs ≡ true → list_any p zs ≡ true
any_front {X} p [] ys zs is h = absurd (false_not_true h)
  where
    false_not_true : ◌≡◌ {A = Bool} false true → ⊥
    false_not_true h = cc
any_front {X} p (x ∷ xs) ys zs is h = ap (list_any p) is ∙ by (p x) refl (λ e. any_front p xs ys (xs ++ ys) refl e)
  where
    by : (b : Bool) → p x ≡ b → (list_any p xs ≡ true → list_any p (xs ++ ys) ≡ true) → list_any p (x ∷ (xs ++ ys)) ≡ true
    by true e rest = any_here p x (xs ++ ys) e
    by false e rest = any_there p x (xs ++ ys) (rest (ap (λ (b : Bool). b || list_any p xs) (sym e) ∙ h))

true_not_false : (b : Bool) → b ≡ true → b ≡ false → ⊥
true_not_false true e f = cc
true_not_false false e f = cc

cause : (rules : Rules) (by : Asker) (tokens met left : List Token) (before after : SideView) (turns : List Turn) (results : List (Result Outcome PushFault)) (pushed : Result ⊤ PushFault)
    → tokens ≡ met ++ left → Settles rules by met results turns pushed → Counts before.faults after.faults pushed → Stops pushed left turns (Ok tt)
    → are_settled (length tokens) turns ≡ false → HasCause rules tokens before after results turns
cause rules by tokens met left before after turns results (Ok u) parts settles counts stops late = settled (settled_or_kept rules by met results turns u settles stops.1)
  where
    all : length tokens ≡ length met
    all = ap (λ (l : List Token). length l) (parts ∙ ap (λ (l : List Token). met ++ l) stops.0 ∙ append-nil met)

    settled : (are_settled (length met) turns ≡ true) ⊎ (list_any keeps turns ≡ true) → HasCause rules tokens before after results turns
    settled (inl h) = absurd (true_not_false (are_settled (length tokens) turns) (ap (λ (n : ℕ). are_settled n turns) all ∙ h) late)
    settled (inr h) = inl h
cause rules by tokens met left before after turns results (Err NoEndpoint) parts settles counts stops late =
    inr (inr (inr (inr (any_front lacks_endpoint met left tokens parts ((last_push rules by met results turns NoEndpoint settles (λ h. cc)).endpoint refl)))))
cause rules by tokens met left before after turns results (Err NoGateway) parts settles counts stops late =
    inr (inr (inr (inl (any_front (lacks_gateway rules) met left tokens parts ((last_push rules by met results turns NoGateway settles (λ h. cc)).gateway refl)))))
cause rules by tokens met left before after turns results (Err Dial) parts settles counts stops late = inr (inl (rose before.faults after.faults counts))
  where
    rose : (a b : ℕ) → Raised a b → Rose a b
    rose a b h = omega (arith, h.1)
cause rules by tokens met left before after turns results (Err Link) parts settles counts stops late = inr (inl (rose before.faults after.faults counts))
  where
    rose : (a b : ℕ) → Raised a b → Rose a b
    rose a b h = omega (arith, h.1)
cause rules by tokens met left before after turns results (Err NoResponse) parts settles counts stops late =
    inr (inr (inl ((last_push rules by met results turns NoResponse settles (λ h. cc)).silent refl)))
cause rules by tokens met left before after turns results (Err Memory) parts settles counts stops late = absurd (no_end stops.0)
  where
    no_end : ◌≡◌ {A = Result ⊤ NodeFault} (Ok tt) (end_by Memory) → ⊥
    no_end h = cc

pub late_have_causes : LateHaveCauses
late_have_causes rules by tokens before after turns b late =
    cause rules by tokens b.met b.left before after turns b.delivers.results b.pushed b.parts b.delivers.settles b.delivers.counts b.stops late
