-- What a receiver's node over a store in memory holds after it is loaded, after a call, and after a stop.
use Rattle.std.proofs.Common.{◌≡◌, ◌∙◌, ap, sym, subst, inl, inr, ℕ, suc, ◌+◌, ◌<◌, ◌≤◌, List, [], ◌∷◌, ◌++◌, length, append-nil, length-append, Bool, true, false, Option, Some, None, Result, Ok, Err, refl, arith}
use Rattle.std.specs.Prelude.{◌⊎◌, IfOk, IsErrOf, MatchBool, OnOk, is_some, nat_lt}
use Rattle.std.proofs.lemmas.List.{length-map}
use Rattle.std.proofs.lemmas.Bool.Decides.{leb_tells}
use Rattle.sig_json.specs.declared.limits.TheConstants.{LAST_NUMBER}
use Rattle.sig_entry.specs.Tokens.{decoded_token, token_spelling}
use Rattle.sig_receiver.specs.declared.heard.Heard.{Heard}
use Rattle.sig_receiver.specs.declared.heard.Heard.TheVariants as heard
use Rattle.sig_receiver.specs.Journal.{journal_by}
use Rattle.sig_receiver.specs.Receiver.{Received, heard_at, nothing, received_of}
use Rattle.sig_receiver.proofs.JournalLemmas.{joins}
use Rattle.sig_outside.specs.Disk.{StopsAfter}
use Rattle.sig_outside.specs.KeptDisk.{Kept, left_since, may_leave, seen}
use Rattle.sig_journal.specs.declared.fault.LoadFault.{LoadFault}
use Rattle.sig_journal.specs.declared.kind.Kind.TheVariants.{Rx}
use Rattle.sig_journal.specs.Added.{rests_with_it}
use Rattle.sig_journal.specs.Journal.{IsAtRest, image_store, told_store}
use Rattle.sig_journal.specs.Store.{Told, pick, tells, with_record}
use Rattle.sig_journal.specs.declared.node_fault.NodeFault.{NodeFault}
use Rattle.sig_journal.specs.declared.node_fault.NodeFault.TheVariants.{Store, Full, Memory}
use Rattle.sig_journal.specs.Appended.{Breaks, HasRecord, LeavesRecord}
use Rattle.sig_journal.specs.Standing.{Durable, Loads}
use Rattle.sig_journal.specs.Stored.{SameJournal, Stored}
use Rattle.sig_journal.specs.Taking.{loaded}
use Rattle.sig_still.specs.Still.{faults, is_short, moment, rest, stop, tells_file}
use Rattle.sig_still.specs.Stores.{HoldsStore, Reads, ReadsBoth, end_at, store_of, with_kept}
use Rattle.sig_still.proofs.Crashes.{crash_tells, holds_end, loaded_holds, read_holds, stop_image, stop_rests, stop_tells}
use Rattle.sig_rxnode.specs.declared.answer.RxAnswer.{RxAnswer}
use Rattle.sig_rxnode.specs.declared.call.RxCall.{RxCall}
use Rattle.sig_rxnode.specs.declared.call.RxCall.TheVariants as call
use Rattle.sig_rxnode.specs.declared.rules.RxRules.{RxRules}
use Rattle.sig_rxnode.specs.Answers.{answer_of, change_of}
use Rattle.sig_rxnode.specs.Holding.{Holding}
use Rattle.sig_rxnode.specs.Journals.{Adds, Causes, Fails, Passes, Writes, end_with}
use Rattle.sig_rxnode.specs.Node.{NodeView}
use Rattle.sig_rxnode.specs.Loading.{HoldsTold}
use Rattle.sig_rxnode.specs.Records.{receiving, text_or_none, texts_of}
use Rattle.sig_rxnode.specs.Take.{Answered}
use Rattle.sig_nodes.specs.Records.{token_records}
use Rattle.sig_nodes.specs.declared.halted.Halted.{Halted}
use Rattle.sig_nodes.specs.declared.halted.Halted.TheVariants as halted
use Rattle.sig_nodes.specs.Receiving.{MakesText, RxAt, RxHalted, RxPasses, RxRests, RxRoom, RxTaken, kept_of, rx_change, rx_end, rx_told}
use Rattle.sig_nodes.proofs.KeptLemmas.{kept_count, map_kept, picked_whole}

abbrev WritesHere : {T : Type 0} → List (List ℕ) → Holding Kept → Holding Kept → Result T NodeFault → Type 0
WritesHere texts old new result = Writes tells_file seen may_leave moment left_since stop is_short texts old new result

-- ---- loading

kept_same : (a b : Received) → (let r : Result Received LoadFault = Ok a in r ≡ Ok b) → a ≡ b
kept_same a b h = cc h

-- a node that was loaded of what both files told
pub load_at : (rules : RxRules) (a b : Kept) (node : NodeView Kept) → node.rules ≡ rules → node.kept.store.broken_at ≡ None → node.kept.store.journal.kind ≡ Rx
    → IsAtRest tells_file seen may_leave node.kept.store.journal → HoldsTold (tells Rx (seen a) (seen b)) node.kept
    → Reads a (pick node.kept.store.journal.in_b node.kept.store.journal.written node.kept.store.journal.other)
    → Reads b (pick node.kept.store.journal.in_b node.kept.store.journal.other node.kept.store.journal.written)
    → (name : List ℕ) (texts : List (List ℕ)) → tells Rx (seen a) (seen b) ≡ Ok (store_of name (token_records texts))
    → loaded receiving (Ok (store_of name (token_records texts))) ≡ Ok (kept_of texts) → RxAt rules name node texts
load_at rules a b node same_rules whole kind rests holds in_a in_b name texts told loads =
    let entries : node.kept.entries ≡ texts_of (token_records texts) = subst (λ r. IfOk r (λ (t : Told). node.kept.entries ≡ texts_of t.content.records)) told holds.entries in
    record {
      rules_are = same_rules;
      state = kept_same node.kept.state (kept_of texts) (sym holds.state ∙ ap (loaded receiving) told ∙ loads);
      count = ap length entries ∙ length-map (token_records texts) (λ payload. text_or_none (decoded_token payload)) ∙ length-map texts token_spelling;
      kind = kind;
      holds = loaded_holds name (token_records texts) Rx a b node.kept.store told whole rests kind in_a in_b;
      loads = loads;
    }

-- a store that has no record keeps nothing
pub new_loads : (name : List ℕ) → loaded receiving (Ok (store_of name [])) ≡ Ok (kept_of [])
new_loads name = refl

-- a crash leaves what it holds
pub crash_rests : (rules : RxRules) (name : List ℕ) (node : NodeView Kept) (texts : List (List ℕ)) → RxAt rules name node texts → RxRests name node texts
crash_rests rules name node texts at =
    let j = node.kept.store.journal in
    record {
      told = ap (λ k. tells k (rest (pick j.in_b j.written j.other)) (rest (pick j.in_b j.other j.written))) (sym at.kind) ∙ crash_tells name (token_records texts) node.kept.store at.holds;
      loads = at.loads;
    }

-- a node whose files were only read
pub read_at : (rules : RxRules) (name : List ℕ) (texts : List (List ℕ)) (old new : NodeView Kept) → RxAt rules name old texts → ReadsBoth old.kept.store new.kept.store
    → new.rules ≡ old.rules → new.kept.state ≡ old.kept.state → new.kept.entries ≡ old.kept.entries → RxAt rules name new texts
read_at rules name texts old new at reads same_rules same_state same_entries = record {
  rules_are = same_rules ∙ at.rules_are;
  state = same_state ∙ at.state;
  count = ap length same_entries ∙ at.count;
  kind = reads.kind ∙ at.kind;
  holds = read_holds name (token_records texts) old.kept.store new.kept.store at.holds reads;
  loads = at.loads;
}

-- ---- a call

-- with one more text
kept_more : (texts : List (List ℕ)) (text : List ℕ) → received_of (kept_of texts) (text ∷ []) ≡ kept_of (texts ++ text ∷ [])
kept_more texts text = sym (joins nothing texts (text ∷ []))

ok_full : (answer : RxAnswer) (n : ℕ) → (let r : Result RxAnswer NodeFault = Ok answer in r ≡ Err (Full n)) → ⊥
ok_full answer n is = cc is

ok_memory : (answer : RxAnswer) → (let r : Result RxAnswer NodeFault = Ok answer in r ≡ Err Memory) → ⊥
ok_memory answer is = cc is

-- a call adds one text, or none
change_shape : (rules : RxRules) (texts : List (List ℕ)) (c : RxCall) → (rx_change rules texts c ≡ []) ⊎ ((text : List ℕ) × (rx_change rules texts c ≡ text ∷ []))
change_shape rules texts (call.Token principal named bytes) = by_heard (heard_at rules.trust principal named (kept_of texts) bytes)
  where
    by_heard : (h : Heard) → (journal_by h [] bytes ≡ []) ⊎ ((text : List ℕ) × (journal_by h [] bytes ≡ text ∷ []))
    by_heard heard.Accepted = inr (bytes, refl)
    by_heard heard.Seen = inl refl
    by_heard (heard.NotTaken code spot) = inl refl
change_shape rules texts (call.Verdict subject) = inl refl
change_shape rules texts (call.Rows from) = inl refl
change_shape rules texts call.Figures = inl refl

module _ (rules : RxRules) (name : List ℕ) (texts : List (List ℕ)) (c : RxCall) (old : NodeView Kept) (at : RxAt rules name old texts) where
  told_is : answer_of old.rules.trust old.kept.state c ≡ rx_told rules texts c
  told_is = ap (λ (r : RxRules). answer_of r.trust old.kept.state c) at.rules_are ∙ ap (λ s. answer_of rules.trust s c) at.state

  change_is : change_of old.rules.trust old.kept.state c ≡ rx_change rules texts c
  change_is = ap (λ (r : RxRules). change_of r.trust old.kept.state c) at.rules_are ∙ ap (λ s. change_of rules.trust s c) at.state

  end_is : (text : List ℕ) → end_with old.kept text ≡ rx_end name texts text
  end_is text = ap (λ e. e + 5 + length (token_spelling text)) (holds_end name (token_records texts) old.kept.store at.holds)

  -- where a number is too great
  pub full_at : {T : Type 0} (turn n : ℕ) (new : NodeView Kept) (result : Result T NodeFault)
      → (old.kept.store.broken_at ≡ None → Causes faults (change_of old.rules.trust old.kept.state c) turn old.kept new.kept result)
      → IsErrOf result (Full n) → RxPasses rules name texts c n
  full_at turn n new result causes is =
      let passes : Passes old.kept (change_of old.rules.trust old.kept.state c) n = (causes at.holds.whole).full n is in
      record { text = passes.text; change = sym change_is ∙ passes.adds; place = passes.ends ∙ end_is passes.text; past = passes.past }

  -- a call that is answered otherwise has room for the text that it adds
  room_at : {T : Type 0} (turn : ℕ) (new : NodeView Kept) (result : Result T NodeFault)
      → (old.kept.store.broken_at ≡ None → Causes faults (change_of old.rules.trust old.kept.state c) turn old.kept new.kept result)
      → ((n : ℕ) → (result ≡ Err (Full n)) ⊎ (result ≡ Err Memory) → ⊥) → RxRoom rules name texts c
  room_at turn new result causes other text is = elim (leb_tells (suc LAST_NUMBER) (rx_end name texts text)) [
    | inl past ↦ absurd (other (rx_end name texts text) ((causes at.holds.whole).must (rx_end name texts text)
        (record { text = text; adds = change_is ∙ is; ends = sym (end_is text); past = past.1 })))
    | inr within ↦ omega (arith, within.1)
  ]

-- the node after a call that was answered and added these texts
module _ (rules : RxRules) (name : List ℕ) (texts : List (List ℕ)) (old new : NodeView Kept) (answer : RxAnswer) (at : RxAt rules name old texts) (same_rules : new.rules ≡ old.rules) where
  after_none : WritesHere [] old.kept new.kept (let r : Result RxAnswer NodeFault = Ok answer in r) → Adds [] old.kept new.kept (let r : Result RxAnswer NodeFault = Ok answer in r) → RxAt rules name new texts
  after_none writes adds = record {
    rules_are = same_rules ∙ at.rules_are;
    state = adds.state ∙ ap (λ s. received_of s []) at.state ∙ sym (joins nothing texts []) ∙ ap kept_of (append-nil texts);
    count = ap length adds.entries ∙ ap length (append-nil old.kept.entries) ∙ at.count;
    kind = ap (λ (s : Stored Kept). s.journal.kind) (writes.unwritten refl) ∙ at.kind;
    holds = subst (HoldsStore name (token_records texts)) (sym (writes.unwritten refl)) at.holds;
    loads = at.loads;
  }

  after_some : (text : List ℕ) → WritesHere (text ∷ []) old.kept new.kept (let r : Result RxAnswer NodeFault = Ok answer in r)
      → Adds (text ∷ []) old.kept new.kept (let r : Result RxAnswer NodeFault = Ok answer in r) → RxAt rules name new (texts ++ text ∷ [])
  after_some text writes adds =
      let added : HasRecord tells_file seen may_leave old.kept.store new.kept.store (token_spelling text) = writes.added text refl in
      let durable = writes.durable text refl at.holds.whole (λ is. ok_memory answer is) in
      let records : token_records (texts ++ text ∷ []) ≡ token_records texts ++ token_spelling text ∷ [] = map_kept token_spelling true texts text in
      let told : told_store seen new.kept.store.journal ≡ Ok (store_of name (token_records (texts ++ text ∷ []))) =
      added.tells (refl, refl) ∙ ap (λ t. with_record t (token_spelling text)) at.holds.tells
      ∙ ap (λ rs. let t : Result Told LoadFault = Ok (store_of name rs) in t) (sym records) in
      let kept : received_of old.kept.state (text ∷ []) ≡ kept_of (texts ++ text ∷ []) = ap (λ s. received_of s (text ∷ [])) at.state ∙ kept_more texts text in
      record {
        rules_are = same_rules ∙ at.rules_are;
        state = adds.state ∙ kept;
        count = ap length adds.entries ∙ length-append old.kept.entries (text ∷ []) ∙ ap (λ n. n + 1) at.count ∙ sym (length-append texts (text ∷ []));
        kind = durable.files.kind ∙ at.kind;
        holds = record { whole = added.whole; tells = told; rests = added.rests };
        loads = ap (loaded receiving) (sym told) ∙ durable.acknowledged.1 (refl, refl) ∙ ap (λ s. let r : Result Received LoadFault = Ok s in r) kept;
      }

-- a call that was answered, and what the node holds then
pub took_at : (rules : RxRules) (name : List ℕ) (texts : List (List ℕ)) (c : RxCall) (turn : ℕ) (old new : NodeView Kept) (answer : RxAnswer) → RxAt rules name old texts
    → Answered c old new (let r : Result RxAnswer NodeFault = Ok answer in r)
    → WritesHere (change_of old.rules.trust old.kept.state c) old.kept new.kept (let r : Result RxAnswer NodeFault = Ok answer in r)
    → (old.kept.store.broken_at ≡ None → Causes faults (change_of old.rules.trust old.kept.state c) turn old.kept new.kept (let r : Result RxAnswer NodeFault = Ok answer in r))
    → (rx_told rules texts c ≡ answer) × RxRoom rules name texts c × RxAt rules name new (texts ++ rx_change rules texts c)
took_at rules name texts c turn old new answer at answered writes causes =
    let change = change_is rules name texts c old at in (
      sym (told_is rules name texts c old at) ∙ sym answered.answer,
      room_at rules name texts c old at turn new _ causes (λ n. elim [ inl is ↦ ok_full answer n is | inr is ↦ ok_memory answer is ]),
      by_change (rx_change rules texts c) (change_shape rules texts c)
          (subst (λ ts. WritesHere ts old.kept new.kept (let r : Result RxAnswer NodeFault = Ok answer in r)) change writes)
          (subst (λ ts. Adds ts old.kept new.kept (let r : Result RxAnswer NodeFault = Ok answer in r)) change answered.adds),
    )
  where
    by_change : (ts : List (List ℕ)) → (ts ≡ []) ⊎ ((text : List ℕ) × (ts ≡ text ∷ []))
        → WritesHere ts old.kept new.kept (let r : Result RxAnswer NodeFault = Ok answer in r) → Adds ts old.kept new.kept (let r : Result RxAnswer NodeFault = Ok answer in r)
        → RxAt rules name new (texts ++ ts)
    by_change ts (inl is) writes adds =
        subst (λ more. RxAt rules name new (texts ++ more)) (sym is) (subst (RxAt rules name new) (sym (append-nil texts))
        (after_none rules name texts old new answer at answered.rules
        (subst (λ more. WritesHere more old.kept new.kept (let r : Result RxAnswer NodeFault = Ok answer in r)) is writes)
        (subst (λ more. Adds more old.kept new.kept (let r : Result RxAnswer NodeFault = Ok answer in r)) is adds)))
    by_change ts (inr one) writes adds =
        subst (λ more. RxAt rules name new (texts ++ more)) (sym one.1)
        (after_some rules name texts old new answer at answered.rules one.0
        (subst (λ more. WritesHere more old.kept new.kept (let r : Result RxAnswer NodeFault = Ok answer in r)) one.1 writes)
        (subst (λ more. Adds more old.kept new.kept (let r : Result RxAnswer NodeFault = Ok answer in r)) one.1 adds))

-- ---- a disk that stands still

-- what a crash leaves of a node whose disk stood still while this text was added
halted_rests : (rules : RxRules) (name : List ℕ) (texts : List (List ℕ)) (old new : NodeView Kept) (text : List ℕ) (calls fill : ℕ) (result : Result RxAnswer NodeFault) → RxAt rules name old texts
    → StopsAfter true calls fill (stop old.kept.store.journal.written) → WritesHere (text ∷ []) old.kept new.kept result → (IsErrOf result Memory → ⊥)
    → rx_end name texts text ≤ LAST_NUMBER → is_short new.kept.store.journal.written ≡ false
    → RxRests name new (with_kept (rests_with_it calls fill) texts text)
halted_rests rules name texts old new text calls fill result at stops writes other room short =
    let leaves = writes.recorded text refl at.holds.whole other in
    let durable = writes.durable text refl at.holds.whole other in
    let j = new.kept.store.journal in
    let keeps : Bool = rests_with_it calls fill in
    let within : old.kept.store.journal.end + 5 + length (token_spelling text) ≤ LAST_NUMBER =
    subst (λ e. e + 5 + length (token_spelling text) ≤ LAST_NUMBER) (sym (holds_end name (token_records texts) old.kept.store at.holds)) room in
    let records : token_records (with_kept keeps texts text) ≡ with_kept keeps (token_records texts) (token_spelling text) = map_kept token_spelling keeps texts text in
    let told = stop_tells name (token_records texts) (token_spelling text) calls fill old.kept.store new.kept.store result at.holds stops durable.files leaves within short in
    let image = stop_image name (token_records texts) (token_spelling text) calls fill old.kept.store new.kept.store result at.holds stops leaves within short in
    let rested = stop_rests (Loads receiving seen old.kept.store.journal old.kept.state) (Loads receiving seen old.kept.store.journal (received_of old.kept.state (text ∷ []))) result
    calls fill old.kept.store.journal.written new.kept.store.journal.written stops short (durable.stopped (refl, refl) within) in
    record {
      told = ap (λ k. tells k (rest (pick j.in_b j.written j.other)) (rest (pick j.in_b j.other j.written))) (sym (durable.files.kind ∙ at.kind))
          ∙ told ∙ ap (λ rs. let t : Result Told LoadFault = Ok (store_of name rs) in t) (sym records);
      loads = by_kept keeps (image ∙ ap (λ rs. let t : Result Told LoadFault = Ok (store_of name rs) in t) (sym records)) rested.1;
    }
  where
    by_kept : (k : Bool) → image_store seen old.kept.store.journal (rest new.kept.store.journal.written) ≡ Ok (store_of name (token_records (with_kept k texts text)))
        → MatchBool k (Loads receiving seen old.kept.store.journal (received_of old.kept.state (text ∷ [])) (rest new.kept.store.journal.written)) (Loads receiving seen old.kept.store.journal old.kept.state (rest new.kept.store.journal.written))
        → loaded receiving (Ok (store_of name (token_records (with_kept k texts text)))) ≡ Ok (kept_of (with_kept k texts text))
    by_kept true image loads = ap (loaded receiving) (sym image) ∙ loads
        ∙ ap (λ s. let r : Result Received LoadFault = Ok s in r) (ap (λ s. received_of s (text ∷ [])) at.state ∙ kept_more texts text)
    by_kept false image loads = at.loads

-- what becomes of a call that was answered while the disk stood still: the journal tells whether it added a text
pub halted_ok : (rules : RxRules) (name : List ℕ) (texts : List (List ℕ)) (c : RxCall) (turn calls fill before : ℕ) (old mid new : NodeView Kept) (answer : RxAnswer) (given : Option RxAnswer)
    → RxAt rules name old texts → StopsAfter true calls fill (stop old.kept.store.journal.written) → before ≡ length old.kept.entries
    → Answered c old mid (let r : Result RxAnswer NodeFault = Ok answer in r)
    → WritesHere (change_of old.rules.trust old.kept.state c) old.kept mid.kept (let r : Result RxAnswer NodeFault = Ok answer in r)
    → (old.kept.store.broken_at ≡ None → Causes faults (change_of old.rules.trust old.kept.state c) turn old.kept mid.kept (let r : Result RxAnswer NodeFault = Ok answer in r))
    → (length mid.kept.entries ≡ before → (given ≡ Some answer) × ReadsBoth mid.kept.store new.kept.store × (new.rules ≡ mid.rules) × (new.kept.state ≡ mid.kept.state) × (new.kept.entries ≡ mid.kept.entries))
    → (length mid.kept.entries ≡ before + 1 → (given ≡ None) × (new ≡ mid))
    → RxTaken rules name texts c (rests_with_it calls fill) new given
halted_ok rules name texts c turn calls fill before old mid new answer given at stops count answered writes causes idle made =
    let change = change_is rules name texts c old at in
    let took = took_at rules name texts c turn old mid answer at answered writes causes in
    by_change (change_shape rules texts c) took.0 took.1
    (subst (λ ts. WritesHere ts old.kept mid.kept (let r : Result RxAnswer NodeFault = Ok answer in r)) change writes)
    (subst (λ ts. Adds ts old.kept mid.kept (let r : Result RxAnswer NodeFault = Ok answer in r)) change answered.adds)
  where
    by_change : (rx_change rules texts c ≡ []) ⊎ ((text : List ℕ) × (rx_change rules texts c ≡ text ∷ [])) → rx_told rules texts c ≡ answer → RxRoom rules name texts c
        → WritesHere (rx_change rules texts c) old.kept mid.kept (let r : Result RxAnswer NodeFault = Ok answer in r)
        → Adds (rx_change rules texts c) old.kept mid.kept (let r : Result RxAnswer NodeFault = Ok answer in r)
        → RxTaken rules name texts c (rests_with_it calls fill) new given
    by_change (inl is) told room writes adds =
        let none : WritesHere [] old.kept mid.kept (let r : Result RxAnswer NodeFault = Ok answer in r) = subst (λ ts. WritesHere ts old.kept mid.kept (let r : Result RxAnswer NodeFault = Ok answer in r)) is writes in
        let same : Adds [] old.kept mid.kept (let r : Result RxAnswer NodeFault = Ok answer in r) = subst (λ ts. Adds ts old.kept mid.kept (let r : Result RxAnswer NodeFault = Ok answer in r)) is adds in
        let went = idle (ap length same.entries ∙ ap length (append-nil old.kept.entries) ∙ sym count) in
        subst (RxTaken rules name texts c (rests_with_it calls fill) new) (sym went.0)
        (is, told, read_at rules name texts mid new (after_none rules name texts old mid answer at answered.rules none same) went.1 went.2 went.3 went.4)
    by_change (inr one) told room writes adds =
        let some : WritesHere (one.0 ∷ []) old.kept mid.kept (let r : Result RxAnswer NodeFault = Ok answer in r) = subst (λ ts. WritesHere ts old.kept mid.kept (let r : Result RxAnswer NodeFault = Ok answer in r)) one.1 writes in
        let more : Adds (one.0 ∷ []) old.kept mid.kept (let r : Result RxAnswer NodeFault = Ok answer in r) = subst (λ ts. Adds ts old.kept mid.kept (let r : Result RxAnswer NodeFault = Ok answer in r)) one.1 adds in
        let halted = made (ap length more.entries ∙ length-append old.kept.entries (one.0 ∷ []) ∙ ap (λ n. n + 1) (sym count)) in
        let makes : MakesText rules name texts c = record { text = one.0; change = one.1; room = room one.0 one.1 } in
        let taken : RxTaken rules name texts c (rests_with_it calls fill) mid None =
        (makes, λ short. halted_rests rules name texts old mid one.0 calls fill (let r : Result RxAnswer NodeFault = Ok answer in r) at stops some (λ is. ok_memory answer is) makes.room short) in
        subst (λ n. RxTaken rules name texts c (rests_with_it calls fill) n given) (sym halted.1)
        (subst (RxTaken rules name texts c (rests_with_it calls fill) mid) (sym halted.0) taken)

-- and of one that was brought to the disk, which failed
halted_store : (rules : RxRules) (name : List ℕ) (texts : List (List ℕ)) (c : RxCall) (turn calls fill : ℕ) (old new : NodeView Kept)
    → RxAt rules name old texts → StopsAfter true calls fill (stop old.kept.store.journal.written)
    → WritesHere (change_of old.rules.trust old.kept.state c) old.kept new.kept (let r : Result RxAnswer NodeFault = Err Store in r)
    → (old.kept.store.broken_at ≡ None → Causes faults (change_of old.rules.trust old.kept.state c) turn old.kept new.kept (let r : Result RxAnswer NodeFault = Err Store in r))
    → RxTaken rules name texts c (rests_with_it calls fill) new None
halted_store rules name texts c turn calls fill old new at stops writes causes =
    let change = change_is rules name texts c old at in
    let fails : Fails faults old.kept.store new.kept.store (change_of old.rules.trust old.kept.state c) turn = (causes at.holds.whole).store refl in
    let is : rx_change rules texts c ≡ fails.text ∷ [] = sym change ∙ fails.adds in
    let room = room_at rules name texts c old at turn new _ causes (λ n. elim [ inl is ↦ store_full n is | inr is ↦ store_memory is ]) in
    let makes : MakesText rules name texts c = record { text = fails.text; change = is; room = room fails.text is } in
    let some : WritesHere (fails.text ∷ []) old.kept new.kept (let r : Result RxAnswer NodeFault = Err Store in r) =
    subst (λ ts. WritesHere ts old.kept new.kept (let r : Result RxAnswer NodeFault = Err Store in r)) fails.adds writes in
    (makes, λ short. halted_rests rules name texts old new fails.text calls fill (let r : Result RxAnswer NodeFault = Err Store in r) at stops some not_memory makes.room short)
  where
    store_full : (n : ℕ) → (let r : Result RxAnswer NodeFault = Err Store in r ≡ Err (Full n)) → ⊥
    store_full n is = cc is

    store_memory : (let r : Result RxAnswer NodeFault = Err Store in r ≡ Err Memory) → ⊥
    store_memory is = cc is

    not_memory : IsErrOf (let r : Result RxAnswer NodeFault = Err Store in r) Memory → ⊥
    not_memory is = cc is

-- ---- what functions give

-- what was loaded of the files that a crash left
pub rest_loads : (node : NodeView Kept) (a b first second : Kept)
    → a ≡ pick node.kept.store.journal.in_b node.kept.store.journal.written node.kept.store.journal.other → b ≡ pick node.kept.store.journal.in_b node.kept.store.journal.other node.kept.store.journal.written
    → seen first ≡ rest a → seen second ≡ rest b → a.short ≡ false → b.short ≡ false
    → (name : List ℕ) (texts : List (List ℕ)) → (is_short node.kept.store.journal.written ≡ false → RxRests name node texts)
    → (tells Rx (seen first) (seen second) ≡ Ok (store_of name (token_records texts))) × (loaded receiving (Ok (store_of name (token_records texts))) ≡ Ok (kept_of texts))
rest_loads node a b first second is_a is_b in_first in_second whole_a whole_b name texts rests =
    let j = node.kept.store.journal in
    let r = rests (picked_whole j.in_b j.written j.other (ap (λ (d : Kept). d.short) (sym is_a) ∙ whole_a) (ap (λ (d : Kept). d.short) (sym is_b) ∙ whole_b)) in (
      ap (λ x. tells Rx x (seen second)) (in_first ∙ ap rest is_a) ∙ ap (λ x. tells Rx (rest (pick j.in_b j.written j.other)) x) (in_second ∙ ap rest is_b) ∙ r.told,
      r.loads,
    )

-- a call, by its result
pub took_result : (c : RxCall) (turn : ℕ) (old new : NodeView Kept) (result : Result RxAnswer NodeFault) → Answered c old new result
    → WritesHere (change_of old.rules.trust old.kept.state c) old.kept new.kept result
    → (old.kept.store.broken_at ≡ None → Causes faults (change_of old.rules.trust old.kept.state c) turn old.kept new.kept result)
    → IfOk result (λ answer. (rules : RxRules) (name : List ℕ) (texts : List (List ℕ)) → RxAt rules name old texts
    → (rx_told rules texts c ≡ answer) × RxRoom rules name texts c × RxAt rules name new (texts ++ rx_change rules texts c))
took_result c turn old new (Ok answer) answered writes causes = λ rules name texts at. took_at rules name texts c turn old new answer at answered writes causes
took_result c turn old new (Err e) answered writes causes = tt

pub store_result : (c : RxCall) (turn : ℕ) (old new : NodeView Kept) (e : NodeFault) → e ≡ Store
    → WritesHere (change_of old.rules.trust old.kept.state c) old.kept new.kept (let r : Result RxAnswer NodeFault = Err e in r)
    → (old.kept.store.broken_at ≡ None → Causes faults (change_of old.rules.trust old.kept.state c) turn old.kept new.kept (let r : Result RxAnswer NodeFault = Err e in r))
    → (rules : RxRules) (name : List ℕ) (texts : List (List ℕ)) (calls fill : ℕ) → RxAt rules name old texts → StopsAfter true calls fill (stop old.kept.store.journal.written)
    → RxTaken rules name texts c (rests_with_it calls fill) new None
store_result c turn old new e is writes causes rules name texts calls fill at stops =
    halted_store rules name texts c turn calls fill old new at stops
    (subst (λ f. WritesHere (change_of old.rules.trust old.kept.state c) old.kept new.kept (let r : Result RxAnswer NodeFault = Err f in r)) is writes)
    (subst (λ f. old.kept.store.broken_at ≡ None → Causes faults (change_of old.rules.trust old.kept.state c) turn old.kept new.kept (let r : Result RxAnswer NodeFault = Err f in r)) is causes)

-- a node that was asked to stand still
pub stopped_at : (rules : RxRules) (name : List ℕ) (texts : List (List ℕ)) (old new : NodeView Kept) → RxAt rules name old texts → Reads old.kept.store.journal.written new.kept.store.journal.written
    → Reads old.kept.store.journal.other new.kept.store.journal.other → SameJournal old.kept.store new.kept.store
    → new.rules ≡ old.rules → new.kept.state ≡ old.kept.state → new.kept.entries ≡ old.kept.entries → RxAt rules name new texts
stopped_at rules name texts old new at written other same same_rules same_state same_entries = read_at rules name texts old new at (record {
  written = written;
  other = other;
  in_b = same.in_b;
  kind = same.kind;
  records = same.records;
  end = same.end;
  broken_at = same.broken_at;
}) same_rules same_state same_entries

-- a node that was loaded again from what its disk rested with
pub crashed_at : (rules : RxRules) (name : List ℕ) (texts : List (List ℕ)) (c : RxCall) (before : ℕ) (keeps : Bool) (old stood again : NodeView Kept) (h : Halted RxAnswer)
    → RxAt rules name old texts → before ≡ length old.kept.entries → RxTaken rules name texts c keeps stood None
    → ((told : List (List ℕ)) → (is_short stood.kept.store.journal.written ≡ false → RxRests name stood told) → RxAt rules name again told × (h ≡ halted.Crashed (nat_lt before (length told))))
    → RxHalted rules name texts c keeps again h
crashed_at rules name texts c before keeps old stood again h at count taken loads =
    let made = loads (with_kept keeps texts taken.0.text) taken.1 in
    subst (RxHalted rules name texts c keeps again) (sym made.1)
    (taken.0, ap (λ n. nat_lt n (length (with_kept keeps texts taken.0.text))) (count ∙ at.count) ∙ kept_count keeps texts taken.0.text, made.0)
