-- A run: its door, and the store that is opened and put back while that is open.
use Rattle.std.proofs.Common.{◌≡◌, ◌∙◌, ℕ, Bool, List, Option, ap, subst}
use Rattle.std.specs.Prelude.{IsSome}
use Rattle.sig_links.specs.Told.{Coming, DoorEnd, stored}
use Rattle.sig_links.specs.Views.{DoorView}
use Rattle.sig_receiver.specs.Receiver.{Received, received_of}
use Rattle.sig_receiver.proofs.JournalLemmas.{joins}
use Rattle.sig_receiver.proofs.KeptLemmas.{none_more}
use Rattle.sig_rxnode.specs.Node.{NodeView, files_told, first_file, second_file}
use Rattle.sig_rxnode.specs.declared.rules.RxRules.{RxRules}
use Rattle.sig_rxsettings.specs.declared.settings.RxSettings.{RxSettings}
use Rattle.sig_opening.specs.Door.{HasDoor}
use Rattle.sig_opening.specs.Ends.{BreaksAfter}
use Rattle.sig_opening.specs.Serving.{Around, AtDoor, NoRun, NoWatch, UnlessThereIn, around, with_open}
use Rattle.sig_opening.specs.Watches.{AreInRow, RunsTo, Standing}
use Rattle.sig_opening.specs.declared.ending.ServeEnd.{ServeEnd}
use Rattle.sig_opening.proofs.EndLemmas.{by_end}
use Rattle.sig_opening.proofs.FilesLemmas.{both_stay, tells_after}
use Rattle.sig_opening.proofs.ServingLemmas.{around_same, ends_around, files_kept, run_around, runs_over}
use Rattle.sig_opening.proofs.WatchLemmas.{rows_files, rows_state}
use Rattle.sig_receive.specs.Closing.{FilesTell, with_text}
use Rattle.sig_receive.specs.Door.{with_door}
use Rattle.sig_receive.specs.Ends.{Says, state_of}
use Rattle.sig_receive.specs.Opening.{Opens}
use Rattle.sig_receive.specs.Serving.{NoWatchBy, Run, Serves, ServesAt, ServesBy, UnlessThereBy, Watched, after_watches}
use Rattle.sig_receive.specs.Watches.{IsWatch, Watch, tells_of}

watches_files : (rules : RxRules) (watches : List Watch) (a b : Standing Received) → AreInRow (IsWatch rules) watches a b → b.files ≡ a.files
watches_files rules watches a b h = rows_files (IsWatch rules) (λ w x y is. is.files) watches a b h

-- ---- while a door is open

-- both files of a store that was told are told again
pub stays_told : {D : Type 0} (told : D → Bool) (seen : D → List ℕ) (rules : RxRules) (end : ServeEnd) (asked : ℕ) (first last : DoorView) (a b a' b' : Option (List ℕ)) (node node' : NodeView D)
    → Opens told seen rules a b node → RunsTo (IsWatch node.rules) tells_of end asked (with_door told node first) (with_door told node' last)
    → a' ≡ stored (told (first_file node')) (seen (first_file node')) → b' ≡ stored (told (second_file node')) (seen (second_file node'))
    → (IsSome a → IsSome a') × (IsSome b → IsSome b')
stays_told {D = D} told seen rules end asked first last a b a' b' node node' opens runs is_a is_b =
    both_stay told seen a b a' b' (first_file node) (second_file node) (first_file node') (second_file node') opens.file_a opens.file_b
    (files_kept (λ (n : NodeView D). n.kept.state) (files_told told) (IsWatch node.rules) tells_of end asked first last node node' (watches_files node.rules) runs) is_a is_b

-- watches over a store that was opened and put back
pub serves_at : {D : Type 0} (told : D → Bool) (seen : D → List ℕ) (rules : RxRules) (end : ServeEnd) (asked : ℕ) (old new : AtDoor) (node node' : NodeView D)
    → Opens told seen rules old.a old.b node → RunsTo (IsWatch node.rules) tells_of end asked (with_door told node old.door) (with_door told node' new.door)
    → BreaksAfter end node'.kept.store.broken_at → FilesTell told seen node'
    → new.a ≡ stored (told (first_file node')) (seen (first_file node')) → new.b ≡ stored (told (second_file node')) (seen (second_file node'))
    → ServesAt rules end asked old new
serves_at {D = D} told seen rules end asked old new node node' opens runs broken kept is_a is_b =
    runs_over (λ (n : NodeView D). n.kept.state) (files_told told) (λ (n : NodeView D). stored (told (first_file n)) (seen (first_file n))) (λ (n : NodeView D). stored (told (second_file n)) (seen (second_file n)))
    state_of with_text (IsWatch rules) tells_of after_watches end asked old new node node' (watches_files rules)
    (λ watches x y same each.
    rows_state (IsWatch rules) received_of (λ (w : Watch). w.texts) joins (λ w u v is. is.state) watches x y (none_more x.state) each
    ∙ ap (λ (s : Received). after_watches s watches) same)
    opens.state
    (subst (λ (r : RxRules). RunsTo (IsWatch r) tells_of end asked (with_door told node old.door) (with_door told node' new.door)) opens.rules_same runs)
    (tells_after state_of with_text node'.kept.state (stored (told (first_file node')) (seen (first_file node'))) (stored (told (second_file node')) (seen (second_file node'))) end node'.kept.store.broken_at kept broken)
    is_a is_b

-- ---- with its door

-- what was done at a door of the settings' place is what was done by opening it and giving it back
pub serves_around : (said : RxSettings) (end : ServeEnd) (asked : ℕ) (old new : Around) (first last : DoorView) (from to : AtDoor) → HasDoor said.listen old.doors new.doors first last
    → from ≡ with_open old first → to ≡ with_open new last → ServesAt said.rules end asked from to → Serves said end asked old new
serves_around said end asked old new first last from to door is_from is_to h =
    ends_around said.listen end old new first last from to (Watched said.rules end asked from to) (Run said end asked old new) door is_from is_to
    (run_around state_of with_text (IsWatch said.rules) tells_of after_watches said.listen end asked old new first last from to door is_from is_to) h

-- ---- by settings that are told

-- by the names of the files, and over what is told before the settings were read
pub serves_named : {X : Type 0} (held : X → List ℕ → Option (List ℕ)) (doors : X → Option (List (List Coming))) (back : X → Option (List DoorEnd)) (told : Option (List ℕ)) (said : RxSettings) (end : ServeEnd) (asked : ℕ)
    → (a a' b b' : List ℕ) (old mid new : X) → a ≡ a' → b ≡ b' → held mid ≡ held old → doors mid ≡ doors old → back mid ≡ back old → Says told said
    → Serves said end asked (around held doors back a b mid) (around held doors back a b new) → ServesBy told end asked (around held doors back a' b' old) (around held doors back a' b' new)
serves_named held doors back told said end asked a a' b b' old mid new is_a is_b p q r says h =
    let before = around held doors back a' b' mid in
    let now = around held doors back a' b' new in
    subst (λ (x : Around). ServesBy told end asked x now) (around_same held doors back a' b' mid old p q r)
    (by_end end (NoRun before now) (NoWatch said.listen before now) (Run said end asked before now)
    (NoRun before now) (NoWatchBy told before now) ((said : RxSettings) × Says told said × Run said end asked before now) (λ none. none) (λ idle. (said, says, idle)) (λ run. (said, says, run))
    (subst (λ (m : List ℕ). Serves said end asked (around held doors back a' m mid) (around held doors back a' m new)) is_b
    (subst (λ (n : List ℕ). Serves said end asked (around held doors back n b mid) (around held doors back n b new)) is_a h)))

pub missing_named : {X : Type 0} (held : X → List ℕ → Option (List ℕ)) (doors : X → Option (List (List Coming))) (back : X → Option (List DoorEnd)) (told : Option (List ℕ)) (said : RxSettings) (end : ServeEnd)
    → (there there' : List ℕ → Option Bool) (a a' b b' : List ℕ) (old mid new : X) → a ≡ a' → b ≡ b' → there' ≡ there → held mid ≡ held old → doors mid ≡ doors old → back mid ≡ back old → Says told said
    → UnlessThereIn said.listen (there' a) (there' b) end (around held doors back a b mid) (around held doors back a b new)
    → UnlessThereBy told (there a') (there b') end (around held doors back a' b' old) (around held doors back a' b' new)
missing_named held doors back told said end there there' a a' b b' old mid new is_a is_b is_there p q r says h =
    let before = around held doors back a' b' mid in
    let now = around held doors back a' b' new in
    let named : UnlessThereIn said.listen (there a') (there b') end before now =
    subst (λ (t : List ℕ → Option Bool). UnlessThereIn said.listen (t a') (t b') end before now) is_there
    (subst (λ (m : List ℕ). UnlessThereIn said.listen (there' a') (there' m) end (around held doors back a' m mid) (around held doors back a' m new)) is_b
    (subst (λ (n : List ℕ). UnlessThereIn said.listen (there' n) (there' b) end (around held doors back n b mid) (around held doors back n b new)) is_a h)) in
    subst (λ (x : Around). UnlessThereBy told (there a') (there b') end x now) (around_same held doors back a' b' mid old p q r)
    (λ lacks. by_end end (NoRun before now) (NoWatch said.listen before now) ⊥ (NoRun before now) (NoWatchBy told before now) ⊥
    (λ none. none) (λ idle. (said, says, idle)) (λ run. run) (named lacks))
