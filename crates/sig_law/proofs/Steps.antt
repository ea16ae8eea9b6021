-- What holds of the world holds after each act, and already after what is kept of it.
use Rattle.std.specs.Option.{option_to_list}
use Rattle.std.proofs.Common.{◌≡◌, ap, sym, subst, ℕ, zero, suc, List, [], ◌∷◌, ◌++◌, map, Bool, true, false, Option, Some, None, if◌then◌else◌, refl}
use Rattle.std.specs.Prelude.{All, Contains, IfSome, IsUtf8, nat_le}
use Rattle.std.specs.List.{slice_get}
use Rattle.std.specs.Str.{is_utf8}
use Rattle.std.proofs.lemmas.Bool.{and_parts, leb-true}
use Rattle.std.proofs.lemmas.List.Elements.{All-head, All-push, All-tail, All-weaker}
use Rattle.std.proofs.lemmas.Str.{IsUtf8-from_is_utf8}
use Rattle.sig_json.specs.Checks.{first_failing}
use Rattle.sig_json.specs.declared.limits.TheConstants.{LAST_NUMBER}
use Rattle.sig_event.specs.declared.claims.Claims.{Claims}
use Rattle.sig_inbox.specs.Pairs.{has_pair}
use Rattle.sig_set.specs.Checks.{Fault}
use Rattle.sig_set.specs.Judgement.{Valid, checks, claims_of, judged_by}
use Rattle.sig_set.specs.Written.{token_text}
use Rattle.sig_set.proofs.JudgedValid.{written_claims}
use Rattle.sig_receiver.specs.declared.heard.Heard.TheVariants.{Accepted, Seen}
use Rattle.sig_receiver.specs.Journal.{answer_by, journal_by, pair_of, pairs_of}
use Rattle.sig_terms.specs.declared.call.Call.{Call}
use Rattle.sig_terms.specs.declared.fact.Fact.{Fact}
use Rattle.sig_terms.specs.declared.rules.Rules.{Rules}
use Rattle.sig_terms.specs.declared.token.Token.{Token}
use Rattle.sig_history.specs.Streams.{Made, made_in}
use Rattle.sig_history.specs.Sound.{Fits}
use Rattle.sig_history.specs.Ours.{IsOurs}
use Rattle.sig_calls.specs.Proper.{IsProperCall, IsProperRules}
use Rattle.sig_calls.specs.Regular.{IsOwedAfter, IsRegular, handed_by}
use Rattle.sig_calls.specs.Table.{answer_of, change_of, over_top, told_of}
use Rattle.sig_law.specs.Law.{AreProper, IsProperAct, IsProperEvent, IsValidText, tokens_in}
use Rattle.sig_law.specs.World.{Act, Called, Delivered, Answered, Acts, Crashed, Elapsed, Ends, Event, World, Reply, answer_recorded, answer_told, call_recorded, call_told, delivery_recorded, delivery_told, happens, heard_of, may_come, recorded, settle_call, sum_in, told, with_facts}
use Rattle.sig_calls.proofs.RegularLemmas.{calls_regular}
use Rattle.sig_law.proofs.Counted.{IsTruthful, answer_truthful, call_truthful, fact_counted, message_ours}
use Rattle.sig_law.proofs.Held.{IsHeard, IsMade, claims_made, held_hearing, held_judging, image, taken_there}
use Rattle.sig_law.proofs.Holding.{Holds, facts_hold, handed_made, messages_hold, owed_ours, owes_its_own}

-- ---- what stands at a place

at_place : {X : Type 0} (P : X → Type 0) (place : ℕ) (xs : List X) (x : X) → All P xs → slice_get xs place ≡ Some x → P x
at_place P place [] x all is = cc is
at_place P zero (y ∷ ys) x all is = let same : y ≡ x = cc in subst P same (All-head P y ys all)
at_place P (suc place) (y ∷ ys) x all is = at_place P place ys x (All-tail P y ys all) is

chosen : (P : World → Type 0) (b : Bool) (left right : World) → (b ≡ true → P left) → P right → P (if b then left else right)
chosen P true left right first second = first refl
chosen P false left right first second = second

unless : (P : World → Type 0) (b : Bool) (left right : World) → P left → (b ≡ false → P right) → P (if b then left else right)
unless P true left right first second = first
unless P false left right first second = second refl

-- ---- what is kept of a call

issuer_text : (rules : Rules) → IsProperRules rules → IsUtf8 rules.issuer
issuer_text rules proper = IsUtf8-from_is_utf8 rules.issuer (and_parts (is_utf8 rules.issuer) _ proper).0

-- two facts on what is there give a third
both_there : {X : Type 0} {P Q R : X → Type 0} (o : Option X) → ((x : X) → P x → Q x → R x) → IfSome o P → IfSome o Q → IfSome o R
both_there None f p q = tt
both_there (Some x) f p q = f x p q

call_kept : (ends : Ends) (world : World) (call : Call) → AreProper ends → Holds ends world → IsProperCall call
    → IsTruthful ends.rules.issuer ends.store_id world.journal call
    → over_top ends.rules (sum_in ends world) call world.time ≡ false
    → Holds ends (with_facts world (world.facts ++ option_to_list (change_of ends.rules (sum_in ends world) call world.time)))
call_kept ends world call proper holds fair truthful low =
    let keeps : IsRegular ends.rules (sum_in ends world) call world.time (told_of ends.rules (sum_in ends world) call world.time) =
    calls_regular ends.rules (sum_in ends world) call world.time proper.rules holds.kept.whole in
    let change : Option Fact = change_of ends.rules (sum_in ends world) call world.time in
    let fits : IfSome change (Fits (sum_in ends world)) = keeps.fits fair low in
    facts_hold ends world change (issuer_text ends.rules proper.rules) holds fits (keeps.ours fair holds.early)
    (both_there change
    (λ f fit acked. fact_counted ends.rules.issuer ends.store_id (sum_in ends world) world.journal call f (owes_its_own ends world holds)
    (λ m there. owed_ours ends world m holds there) fit acked truthful)
    fits keeps.acked)

call_recorded_holds : (ends : Ends) (world : World) (call : Call) → AreProper ends → Holds ends world → IsProperCall call
    → IsTruthful ends.rules.issuer ends.store_id world.journal call → Holds ends (call_recorded ends call world)
call_recorded_holds ends world call proper holds fair truthful =
    unless (Holds ends) (over_top ends.rules (sum_in ends world) call world.time) world _ holds
    (λ low. call_kept ends world call proper holds fair truthful low)

-- ---- what a call tells

-- what it hands out was made
call_hands : (ends : Ends) (before after : World) (call : Call) → AreProper ends → Holds ends before → Holds ends after
    → after.facts ≡ before.facts ++ option_to_list (change_of ends.rules (sum_in ends before) call before.time)
    → All (IsMade (tokens_in ends after)) (handed_by (answer_of ends.rules (sum_in ends before) call before.time))
call_hands ends before after call proper holds later same =
    All-weaker (IsOwedAfter (sum_in ends before) (change_of ends.rules (sum_in ends before) call before.time))
    (IsMade (tokens_in ends after))
    (λ m owed. handed_made ends before after (change_of ends.rules (sum_in ends before) call before.time) m later same owed)
    (handed_by (answer_of ends.rules (sum_in ends before) call before.time))
    (calls_regular ends.rules (sum_in ends before) call before.time proper.rules holds.kept.whole).hands

facts_recorded : (b : Bool) (world more : World) → b ≡ false → (if b then world else more).facts ≡ more.facts
facts_recorded true world more is = cc is
facts_recorded false world more is = refl

call_told_holds : (ends : Ends) (world : World) (call : Call) → AreProper ends → Holds ends world → Holds ends (call_recorded ends call world)
    → Holds ends (call_told ends call world (call_recorded ends call world))
call_told_holds ends world call proper holds after =
    let over : Bool = over_top ends.rules (sum_in ends world) call world.time in
    unless (Holds ends) over (call_recorded ends call world) _ after
    (λ low. messages_hold ends (call_recorded ends call world) (handed_by (answer_of ends.rules (sum_in ends world) call world.time)) after
    (call_hands ends world (call_recorded ends call world) call proper holds after
    (facts_recorded over world (with_facts world (world.facts ++ option_to_list (change_of ends.rules (sum_in ends world) call world.time))) low)))

-- ---- deliveries

name_text : (o : Option (List ℕ)) → ((name : List ℕ) → o ≡ Some name → IsUtf8 name) → IfSome o IsUtf8
name_text None h = tt
name_text (Some name) h = h name refl

-- what is written of a message has its claims
message_text : (ends : Ends) (world : World) (m : Token) → AreProper ends → Holds ends world → IsMade (tokens_in ends world) m
    → claims_of (token_text m.claims ends.rules.key) ≡ m.claims
message_text ends world m proper holds there =
    let ours : IsOurs ends.rules.issuer ends.store_id m.stream m.number m.claims =
    message_ours ends.rules.issuer ends.store_id (tokens_in ends world) m holds.kept.made there in
    written_claims m.claims ends.rules.key ours.proper (name_text ends.rules.key.kid proper.kid)

-- a message's claims are those of a token
claims_there : (tokens : List Made) (m : Token) → IsMade tokens m → Contains (map claims_made tokens) m.claims
claims_there tokens m there = image claims_made tokens (made_in m) there

-- why a message is refused, where it is
abbrev fault_of : Ends → Token → Option Fault
fault_of ends m = first_failing (checks ends.trust (Some m.claims.iss) None (token_text m.claims ends.rules.key))

-- one that isn't refused is valid
message_valid : (ends : Ends) (world : World) (m : Token) → AreProper ends → Holds ends world → IsMade (tokens_in ends world) m
    → fault_of ends m ≡ None → IsValidText ends (token_text m.claims ends.rules.key)
message_valid ends world m proper holds there none =
    let text : List ℕ = token_text m.claims ends.rules.key in
    subst (λ (c : Claims). judged_by (first_failing (checks ends.trust (Some c.iss) None text)) (claims_of text) ≡ Valid (claims_of text))
    (sym (message_text ends world m proper holds there)) (ap (λ o. judged_by o (claims_of text)) none)

-- what is kept of a text is valid, as what was kept before it
valid_judging : (ends : Ends) (journal : List (List ℕ)) (text : List ℕ) (fault : Option Fault) → All (IsValidText ends) journal
    → (fault ≡ None → IsValidText ends text)
    → All (IsValidText ends) (journal_by (answer_by [] (judged_by fault (claims_of text)) journal) journal text)
valid_judging ends journal text (Some fault) all valid = all
valid_judging ends journal text None all valid =
    elim (has_pair (pair_of (claims_of text)) (pairs_of journal)) as (λ b. All (IsValidText ends) (journal_by (if b then Seen else Accepted) journal text)) [
      | true ↦ all
      | false ↦ All-push (IsValidText ends) journal text all (valid refl)
    ]

message_recorded : (ends : Ends) (world : World) (m : Token) → AreProper ends → Holds ends world → IsMade (tokens_in ends world) m
    → Holds ends (delivery_recorded ends (Some m) world)
message_recorded ends world m proper holds there = record {
  kept = holds.kept;
  sound = holds.sound;
  held = held_judging ends.rules.issuer ends.store_id (tokens_in ends world) world.facts world.journal world.messages world.replies
      (token_text m.claims ends.rules.key) (fault_of ends m) holds.held
      (subst (Contains (map claims_made (tokens_in ends world))) (sym (message_text ends world m proper holds there))
      (claims_there (tokens_in ends world) m there));
  valid = valid_judging ends world.journal (token_text m.claims ends.rules.key) (fault_of ends m) holds.valid
      (message_valid ends world m proper holds there);
  early = holds.early;
}

message_told : (ends : Ends) (world : World) (m : Token) → AreProper ends → Holds ends world → IsMade (tokens_in ends world) m
    → Holds ends (delivery_recorded ends (Some m) world)
    → Holds ends (delivery_told ends (Some m) world (delivery_recorded ends (Some m) world))
message_told ends world m proper holds there after =
    let later : World = delivery_recorded ends (Some m) world in
    record {
      kept = after.kept;
      sound = after.sound;
      held = held_hearing ends.rules.issuer ends.store_id (tokens_in ends world) world.facts later.journal world.messages world.replies
          (record { message = m; heard = heard_of ends world m }) after.held (record {
            message = there;
            taken = λ is. subst (λ c. has_pair (pair_of c) (pairs_of later.journal) ≡ true) (message_text ends world m proper holds there)
                (taken_there world.journal (token_text m.claims ends.rules.key) (fault_of ends m) is);
          });
      valid = after.valid;
      early = after.early;
    }

-- ---- what may stand at the place that an act names

-- a message that was made
abbrev IsMessage : Ends → World → Option Token → Type 0
IsMessage ends world o = (m : Token) → o ≡ Some m → IsMade (tokens_in ends world) m

-- an answer to one
abbrev IsAnswer : Ends → World → Option Reply → Type 0
IsAnswer ends world o = (r : Reply) → o ≡ Some r → IsHeard (tokens_in ends world) world.journal r

message_at : (ends : Ends) (world : World) (place : ℕ) → Holds ends world → IsMessage ends world (slice_get world.messages place)
message_at ends world place holds m is =
    at_place (IsMade (tokens_in ends world)) place world.messages m holds.held.handed is

answer_at : (ends : Ends) (world : World) (place : ℕ) → Holds ends world → IsAnswer ends world (slice_get world.replies place)
answer_at ends world place holds r is =
    at_place (IsHeard (tokens_in ends world) world.journal) place world.replies r holds.held.heard is

delivery_recorded_holds : (ends : Ends) (world : World) (o : Option Token) → AreProper ends → Holds ends world → IsMessage ends world o
    → Holds ends (delivery_recorded ends o world)
delivery_recorded_holds ends world None proper holds there = holds
delivery_recorded_holds ends world (Some m) proper holds there = message_recorded ends world m proper holds (there m refl)

delivery_told_holds : (ends : Ends) (world : World) (o : Option Token) → AreProper ends → Holds ends world → IsMessage ends world o
    → Holds ends (delivery_recorded ends o world) → Holds ends (delivery_told ends o world (delivery_recorded ends o world))
delivery_told_holds ends world None proper holds there after = after
delivery_told_holds ends world (Some m) proper holds there after = message_told ends world m proper holds (there m refl) after

answer_recorded_holds : (ends : Ends) (world : World) (o : Option Reply) → AreProper ends → Holds ends world → IsAnswer ends world o
    → Holds ends (answer_recorded ends o world)
answer_recorded_holds ends world None proper holds heard = holds
answer_recorded_holds ends world (Some r) proper holds heard =
    call_recorded_holds ends world (settle_call r) proper holds tt
    (answer_truthful ends.rules.issuer ends.store_id (tokens_in ends world) world.journal r holds.kept.made (heard r refl))

answer_told_holds : (ends : Ends) (world : World) (o : Option Reply) → AreProper ends → Holds ends world
    → Holds ends (answer_recorded ends o world) → Holds ends (answer_told ends o world (answer_recorded ends o world))
answer_told_holds ends world None proper holds after = after
answer_told_holds ends world (Some r) proper holds after = call_told_holds ends world (settle_call r) proper holds after

-- ---- acts

-- what is kept of an act, as by a crash before anything is told
pub recorded_holds : (ends : Ends) (world : World) (act : Act) → AreProper ends → IsProperAct act → Holds ends world
    → Holds ends (recorded ends act world)
recorded_holds ends world (Called call) proper fair holds =
    chosen (Holds ends) (may_come world.replies call) _ world
    (λ may. call_recorded_holds ends world call proper holds fair
    (call_truthful ends.rules.issuer ends.store_id (tokens_in ends world) world.journal world.replies call holds.kept.made holds.held.heard may)) holds
recorded_holds ends world (Delivered place) proper fair holds =
    delivery_recorded_holds ends world (slice_get world.messages place) proper holds (message_at ends world place holds)
recorded_holds ends world (Answered place) proper fair holds =
    answer_recorded_holds ends world (slice_get world.replies place) proper holds (answer_at ends world place holds)

-- a call is kept and told only where it may come
call_come : (ends : Ends) (world : World) (call : Call) (b : Bool) → AreProper ends → Holds ends world
    → Holds ends (if b then call_recorded ends call world else world)
    → Holds ends (if b then call_told ends call world (if b then call_recorded ends call world else world) else (if b then call_recorded ends call world else world))
call_come ends world call true proper holds after = call_told_holds ends world call proper holds after
call_come ends world call false proper holds after = holds

-- what it tells then
pub told_holds : (ends : Ends) (world : World) (act : Act) → AreProper ends → Holds ends world → Holds ends (recorded ends act world)
    → Holds ends (told ends act world (recorded ends act world))
told_holds ends world (Called call) proper holds after = call_come ends world call (may_come world.replies call) proper holds after
told_holds ends world (Delivered place) proper holds after =
    delivery_told_holds ends world (slice_get world.messages place) proper holds (message_at ends world place holds) after
told_holds ends world (Answered place) proper holds after = answer_told_holds ends world (slice_get world.replies place) proper holds after

-- ---- events

pub event_holds : (ends : Ends) (world : World) (e : Event) → AreProper ends → IsProperEvent e → Holds ends world → Holds ends (happens ends world e)
event_holds ends world (Acts act) proper fair holds =
    told_holds ends world act proper holds (recorded_holds ends world act proper fair holds)
event_holds ends world (Crashed act true) proper fair holds = recorded_holds ends world act proper fair holds
event_holds ends world (Crashed act false) proper fair holds = holds
event_holds ends world (Elapsed time) proper fair holds =
    chosen (Holds ends) (nat_le time LAST_NUMBER) _ world (λ early. record {
      kept = holds.kept;
      sound = holds.sound;
      held = holds.held;
      valid = holds.valid;
      early = leb-true time LAST_NUMBER early;
    }) holds
