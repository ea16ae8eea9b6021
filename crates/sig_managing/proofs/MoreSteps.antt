-- Requests one after another: those that were made, and however they go on.
use Rattle.std.proofs.Common.{◌≡◌, ◌≢◌, ◌∙◌, ap, sym, subst, refl, inl, inr, ℕ, ◌<◌, List, [], ◌∷◌, ◌++◌, append_assoc, append-nil, filter_map, true, Option, Some, None, Result, Ok, Err}
use Rattle.std.specs.Prelude.{⊤, is_some}
use Rattle.std.specs.List.{cons_option}
use Rattle.std.proofs.lemmas.List.Elements.{filter_map-append}
use Rattle.std.proofs.lemmas.Grind.{flat_map-append}
use Rattle.std.specs.Option.{option_to_list}
use Rattle.std.proofs.KnownBytes.{Appends-nil, Appends-trans}
use Rattle.std.specs.Io.KnownBytes.{Appends}
use Rattle.sig_outside.specs.Causes.{Raised}
use Rattle.sig_command.specs.Moment.{OutputCalm, OutputState, OutputStopped}
use Rattle.sig_stream.specs.Steps.{◌>>=◌}
use Rattle.sig_links.specs.Told.{LinkPlan, Sent}
use Rattle.sig_http.specs.declared.message.Response.{Response}
use Rattle.sig_outside.proofs.CauseLemmas.{appends_then_prefix}
use Rattle.sig_dial.specs.declared.fault.AskFault.{AskFault}
use Rattle.sig_dial.specs.declared.fault.AskFault.TheVariants as asked
use Rattle.sig_declared.specs.declared.declared.Declared.{Declared}
use Rattle.sig_declared.specs.declared.provider.Provider.{Provider}
use Rattle.sig_manager.specs.Asking.{request_of}
use Rattle.sig_manager.specs.Exchange.{Managed, heard, next_by, next_of, step_by, step_of, steps_after}
use Rattle.sig_manager.specs.Measure.{weight_of}
use Rattle.sig_manager.specs.declared.fault.ManageFault.{ManageFault}
use Rattle.sig_manager.specs.declared.fault.ManageFault.TheVariants as manage
use Rattle.sig_manager.specs.declared.step.Step.{Step}
use Rattle.sig_manager.proofs.Falling.{step_falls}
use Rattle.sig_managing.specs.Drives.{Drives, Prints}
use Rattle.sig_managing.specs.Exchanges.{Exchange, Follows, GoesOn, HearsAll, IsTaken, SendsAll, done_in, left_after, taken_by}
use Rattle.sig_managing.specs.Lines.{change_of, counted, counts_of, line_of, lines_of}
use Rattle.sig_managing.specs.Steps.{Asks, EndsStep, IsNextOrNone, change_by}
use Rattle.sig_managing.specs.declared.counts.Change.{Change}
use Rattle.sig_managing.specs.declared.counts.Counts.{Counts}
use Rattle.sig_managing.specs.declared.fault.DriveFault.{DriveFault}
use Rattle.sig_managing.specs.declared.fault.DriveFault.TheVariants.{Dial, Link, Peer, Output, Memory}
use Rattle.sig_managing.proofs.Links.{hears_none, hears_on, sends_none, sends_on}

-- ---- lists in two parts

lines_on : (xs ys : List Exchange) → lines_of (done_in (xs ++ ys)) ≡ lines_of (done_in xs) ++ lines_of (done_in ys)
lines_on xs ys = ap lines_of (filter_map-append (λ (e : Exchange). e.done) xs ys) ∙ flat_map-append line_of (done_in xs) (done_in ys)

-- what one more step changes
changes_one : (o : Option Step) → filter_map change_of (cons_option o []) ≡ option_to_list (change_by o)
changes_one None = refl
changes_one (Some s) = at (change_of s)
  where
    at : (o : Option Change) → cons_option o [] ≡ option_to_list o
    at None = refl
    at (Some c) = refl

changes_on : (xs : List Exchange) (e : Exchange) → filter_map change_of (done_in (xs ++ e ∷ [])) ≡ filter_map change_of (done_in xs) ++ option_to_list (change_by e.done)
changes_on xs e =
    ap (filter_map change_of) (filter_map-append (λ (x : Exchange). x.done) xs (e ∷ []))
    ∙ filter_map-append change_of (done_in xs) (cons_option e.done [])
    ∙ ap (λ (l : List Change). filter_map change_of (done_in xs) ++ l) (changes_one e.done)

-- ---- what is printed, one part after another

calm_on : (a b c : OutputState) → OutputCalm a b → OutputCalm b c → OutputCalm a c
calm_on a b c p q = (q.0 ∙ p.0, q.1 ∙ p.1)

stopped_on : (a b c : OutputState) → OutputCalm a b → OutputStopped b c → OutputStopped a c
stopped_on a b c p (inl h) = inl (subst (λ (n : ℕ). Raised n c.faults) p.0 h.0, h.1 ∙ p.1)
stopped_on a b c p (inr h) = inr (subst (λ (n : ℕ). Raised n c.stalls) p.1 h.0, h.1 ∙ p.0)

prints_on : (T : Type 0) (e : DriveFault) (a b c : OutputState) (xs ys : List ℕ) → Appends a.written b.written xs → OutputCalm a b → Prints {T = T} (Err e) ys b c
    → Prints {T = T} (Err e) (xs ++ ys) a c
prints_on T Dial a b c xs ys p calm q = (Appends-trans a.written b.written c.written xs ys p q.0, calm_on a b c calm q.1)
prints_on T Link a b c xs ys p calm q = (Appends-trans a.written b.written c.written xs ys p q.0, calm_on a b c calm q.1)
prints_on T (Peer place) a b c xs ys p calm q = (Appends-trans a.written b.written c.written xs ys p q.0, calm_on a b c calm q.1)
prints_on T Output a b c xs ys p calm q = (appends_then_prefix a.written b.written c.written xs ys p q.0, stopped_on a b c calm q.1)
prints_on T Memory a b c xs ys p calm q = (Appends-trans a.written b.written c.written xs ys p q.0, calm_on a b c calm q.1)

-- ---- how it goes on after one request

after_taken : (taken : Result Managed DriveFault) (now after : Managed) (done : Option Step) → EndsStep taken now done after (Ok tt) → (rest : List Exchange) (last : Managed) (end : Result ⊤ DriveFault)
    → Follows after rest last end → GoesOn taken now done rest last end (Follows (left_after now taken) rest last end)
after_taken (Ok later) now after d is rest last end p = (is.0, inr (subst (λ (m : Managed). Follows m rest last end) is.1 p))
after_taken (Err fault) now after d is rest last end p = absurd cc

there : (taken : Result Managed DriveFault) (now after : Managed) (done : Option Step) (e : DriveFault) → EndsStep taken now done after (Err e)
    → GoesOn taken now done [] after (Err e) (Follows (left_after now taken) [] after (Err e))
there (Ok later) now after d e is = elim is.2 [
  | inl out ↦ (is.0, inl (record { none = refl; same = is.1; halts = out }))
  | inr ok ↦ absurd cc
]
there (Err fault) now after d e is = (is.0, record { none = refl; same = is.1; halts = is.2 })

follows_last : (now after : Managed) (o : Option Exchange) (e : DriveFault) → IsNextOrNone now o after (Err e) → Follows now (option_to_list o) after (Err e)
follows_last now after None e is = (is.0, inr is.1)
follows_last now after (Some x) e is = (is.0, is.1, there x.taken now after x.done e is.2)

-- ---- within the requests

-- so many were made, and each went on; however it goes on, all of them were made so
pub record GoesFrom (provider : Provider) (m now : Managed) (h i : Option (List LinkPlan)) (s t : Option (List Sent)) (a b : OutputState) (counts : Counts) : Type 0 where
  pub exchanges : List Exchange
  pub sends : SendsAll provider exchanges s t
  pub hears : HearsAll exchanges h i
  pub prints : Appends a.written b.written (lines_of (done_in exchanges))
  pub calm : OutputCalm a b
  pub counted : counts ≡ counted (done_in exchanges)
  pub all : (rest : List Exchange) (last : Managed) (end : Result ⊤ DriveFault) → Follows now rest last end → Follows m (exchanges ++ rest) last end

-- none yet
pub goes_none : (provider : Provider) (m : Managed) (h : Option (List LinkPlan)) (s : Option (List Sent)) (a : OutputState) (counts : Counts) → counts ≡ counts_of [] → GoesFrom provider m m h h s s a a counts
goes_none provider m h s a counts none = record {
  exchanges = [];
  sends = sends_none provider s;
  hears = hears_none h;
  prints = Appends-nil a.written;
  calm = (refl, refl);
  counted = none;
  all = λ rest last end p. p;
}

module _ (provider : Provider) (m now after : Managed) (h i j : Option (List LinkPlan)) (s t u : Option (List Sent)) (a b c : OutputState) (counts : Counts)
    (g : GoesFrom provider m now h i s t a b counts) where
  -- one more, which went on
  pub goes_next : (change : Option Change) (later : Counts) → Asks {T = Option Change} provider now after i j t u b c (Ok change) → change ≡ change_by (step_of now)
      → later ≡ counts_of (filter_map change_of (done_in g.exchanges) ++ option_to_list change) → GoesFrom provider m after h j s u a c later
  goes_next change later asks says counts_on = by asks.made asks.is asks.sends asks.hears asks.prints
    where
      by : (o : Option Exchange) → IsNextOrNone now o after (Ok tt) → SendsAll provider (option_to_list o) t u → HearsAll (option_to_list o) i j
          → Prints {T = Option Change} (Ok change) (lines_of (done_in (option_to_list o))) b c → GoesFrom provider m after h j s u a c later
      by None is sends hears prints = absurd cc
      by (Some e) is sends hears prints = record {
        exchanges = g.exchanges ++ e ∷ [];
        sends = sends_on provider g.exchanges (e ∷ []) s t u g.sends sends;
        hears = hears_on g.exchanges (e ∷ []) h i j g.hears hears;
        prints = subst (λ (l : List ℕ). Appends a.written c.written l) (sym (lines_on g.exchanges (e ∷ []))) (Appends-trans a.written b.written c.written _ _ g.prints prints.0);
        calm = calm_on a b c g.calm prints.1;
        counted = counts_on ∙ ap counts_of (ap (λ (o : Option Change). filter_map change_of (done_in g.exchanges) ++ option_to_list o) (says ∙ ap change_by (sym (done_is e.taken e.done is.2))) ∙ sym (changes_on g.exchanges e));
        all = λ rest last end p. subst (λ (l : List Exchange). Follows m l last end) (sym (append_assoc g.exchanges (e ∷ []) rest))
            (g.all (e ∷ rest) last end (is.0, is.1, after_taken e.taken now after e.done is.2 rest last end p));
      }
        where
          done_is : (taken : Result Managed DriveFault) (done : Option Step) → EndsStep taken now done after (Ok tt) → done ≡ step_of now
          done_is (Ok later) d is = is.0
          done_is (Err fault) d is = absurd cc

  -- one more, which ended it
  pub goes_no_further : (e : DriveFault) → Asks {T = Option Change} provider now after i j t u b c (Err e) → Drives provider m after h j s u a c (Err e)
  goes_no_further e asks = record {
    exchanges = g.exchanges ++ option_to_list asks.made;
    follows = g.all (option_to_list asks.made) after (Err e) (follows_last now after asks.made e asks.is);
    sends = sends_on provider g.exchanges (option_to_list asks.made) s t u g.sends asks.sends;
    hears = hears_on g.exchanges (option_to_list asks.made) h i j g.hears asks.hears;
    prints = subst (λ (l : List ℕ). Prints {T = Counts} (Err e) l a c) (sym (lines_on g.exchanges (option_to_list asks.made)))
        (counts_prints e _ _ _ (prints_on (Option Change) e a b c _ _ g.prints g.calm asks.prints));
    counts = tt;
  }
    where
      counts_prints : (e : DriveFault) (l : List ℕ) (x y : OutputState) → Prints {T = Option Change} (Err e) l x y → Prints {T = Counts} (Err e) l x y
      counts_prints Dial l x y p = p
      counts_prints Link l x y p = p
      counts_prints (Peer place) l x y p = p
      counts_prints Output l x y p = p
      counts_prints Memory l x y p = p

-- the first one, which went on
pub goes_first : (provider : Provider) (m after : Managed) (h j : Option (List LinkPlan)) (s u : Option (List Sent)) (a c : OutputState) (change : Option Change) (later : Counts)
    → Asks {T = Option Change} provider m after h j s u a c (Ok change) → change ≡ change_by (step_of m) → later ≡ counts_of (option_to_list change) → GoesFrom provider m after h j s u a c later
unfolding goes_none
goes_first provider m after h j s u a c change later asks says counts_on =
    goes_next provider m m after h h j s s u a a c (counts_of []) (goes_none provider m h s a (counts_of []) refl) change later asks says counts_on

-- nothing is left to ask
pub goes_to_the_end : (provider : Provider) (m now : Managed) (h i : Option (List LinkPlan)) (s t : Option (List Sent)) (a b : OutputState) (counts : Counts)
    → GoesFrom provider m now h i s t a b counts → next_of now ≡ None → Drives provider m now h i s t a b (Ok counts)
goes_to_the_end provider m now h i s t a b counts g none = record {
  exchanges = g.exchanges;
  follows = subst (λ (l : List Exchange). Follows m l now (Ok tt)) (append-nil g.exchanges) (g.all [] now (Ok tt) (refl, inl (none, refl)));
  sends = g.sends;
  hears = g.hears;
  prints = (g.prints, g.calm);
  counts = g.counted;
}

-- ---- what is left to ask

-- the most requests that may still be made, once the streams are listed
abbrev pub left_by : Option (List Step) → ℕ
left_by None = 0
left_by (Some steps) = weight_of steps

steps_told : (declared : List Declared) (r : Result (List Step) ManageFault) (later : Managed)
    → (r >>= λ steps. Ok (record { declared = declared; steps = Some steps })) ≡ Ok later → (steps : List Step) × (later.steps ≡ Some steps)
steps_told declared (Ok steps) later h = (steps, steps_same h)
  where
    steps_same : ◌≡◌ {A = Result Managed ManageFault} (Ok (record { declared = declared; steps = Some steps })) (Ok later) → later.steps ≡ Some steps
    steps_same h = cc
steps_told declared (Err e) later h = absurd cc

heard_steps : (now later : Managed) (response : Response) → heard now response ≡ Ok later → (steps : List Step) × (later.steps ≡ Some steps)
heard_steps now later response h = steps_told now.declared (steps_after now.declared now.steps response) later h

taken_heard : (r : Result Managed ManageFault) (later : Managed) → taken_by r ≡ Ok later → r ≡ Ok later
taken_heard (Ok x) later h = ok_same h
  where
    ok_same : ◌≡◌ {A = Result Managed DriveFault} (Ok x) (Ok later) → ◌≡◌ {A = Result Managed ManageFault} (Ok x) (Ok later)
    ok_same h = cc
taken_heard (Err (manage.Peer place)) later h = absurd cc
taken_heard (Err manage.Memory) later h = absurd cc

-- an answer that was taken is a response
response_of : (now later : Managed) (answer : Result Response AskFault) → IsTaken now answer (Ok later) → (response : Response) × (heard now response ≡ Ok later)
response_of now later (Ok response) h = (response, taken_heard (heard now response) later h)
response_of now later (Err asked.Dial) h = absurd cc
response_of now later (Err asked.Link) h = absurd cc
response_of now later (Err asked.NoResponse) h = absurd cc
response_of now later (Err asked.Memory) h = absurd cc

module _ (T : Type 0) (provider : Provider) (now after : Managed) (i j : Option (List LinkPlan)) (t u : Option (List Sent)) (b c : OutputState) (x : T)
    (asks : Asks {T = T} provider now after i j t u b c (Ok x)) where
  heard_in : (response : Response) × (heard now response ≡ Ok after)
  heard_in = by asks.made asks.is
    where
      by_taken : (answer : Result Response AskFault) (taken : Result Managed DriveFault) (done : Option Step) → IsTaken now answer taken → EndsStep taken now done after (Ok tt)
          → (response : Response) × (heard now response ≡ Ok after)
      by_taken answer (Ok later) d is ends = response_of now after answer (subst (λ (m : Managed). IsTaken now answer (Ok m)) (sym ends.1) is)
      by_taken answer (Err fault) d is ends = absurd cc

      by : (o : Option Exchange) → IsNextOrNone now o after (Ok tt) → (response : Response) × (heard now response ≡ Ok after)
      by None is = absurd cc
      by (Some e) is = by_taken e.answer e.taken e.done is.1 is.2

  -- after a request that went on the streams are listed
  pub listed_after : (steps : List Step) × (after.steps ≡ Some steps)
  listed_after = heard_steps now after heard_in.0 heard_in.1

  -- and after one of a step fewer requests are left
  pub fewer_after : (s : Step) (rest : List Step) → now.steps ≡ Some (s ∷ rest) → left_by after.steps < left_by now.steps
  fewer_after s rest is =
      let steps = listed_after in
      let falls = step_falls now after s rest steps.0 heard_in.0 is heard_in.1 steps.1 in
      subst (λ (o : Option (List Step)). left_by after.steps < left_by o) (sym is)
      (subst (λ (o : Option (List Step)). left_by o < weight_of (s ∷ rest)) (sym steps.1) falls)

-- ---- the step that is asked next

pub step_is : (o : Option Step) → is_some o ≡ true → (s : Step) × (o ≡ Some s)
step_is None h = absurd cc
step_is (Some s) h = (s, refl)

pub step_there : (now : Managed) (steps : List Step) (s : Step) → now.steps ≡ Some steps → step_of now ≡ Some s → (rest : List Step) × (now.steps ≡ Some (s ∷ rest))
step_there now [] s listed is = absurd (none_there (subst (λ (o : Option (List Step)). step_by o ≡ Some s) listed is))
  where
    none_there : ◌≡◌ {A = Option Step} None (Some s) → ⊥
    none_there h = cc
step_there now (x ∷ rest) s listed is = (rest, listed ∙ ap (λ (y : Step). Some (y ∷ rest)) (first_same (subst (λ (o : Option (List Step)). step_by o ≡ Some s) listed is)))
  where
    first_same : ◌≡◌ {A = Option Step} (Some x) (Some s) → x ≡ s
    first_same h = cc

pub none_left : (now : Managed) (steps : List Step) → now.steps ≡ Some steps → step_of now ≡ None → next_of now ≡ None
none_left now [] listed is = ap next_by listed
none_left now (s ∷ rest) listed is = absurd (some_there (subst (λ (o : Option (List Step)). step_by o ≡ None) listed is))
  where
    some_there : ◌≡◌ {A = Option Step} (Some s) None → ⊥
    some_there h = cc

pub some_left : (now : Managed) (s : Step) (rest : List Step) → now.steps ≡ Some (s ∷ rest) → next_of now ≢ None
some_left now s rest is none = some_there (subst (λ (o : Option (List Step)). next_by o ≡ None) is none)
  where
    some_there : Some (request_of s) ≡ None → ⊥
    some_there h = cc
