-- What holds of the world at each moment, and how it goes on under one more fact and under more messages.
use Rattle.std.specs.Option.{option_to_list}
use Rattle.std.proofs.Common.{◌≡◌, ◌∙◌, ap, sym, subst, ◌≤◌, List, [], ◌∷◌, ◌++◌, map, true, Option, Some, None, append_assoc, append-nil}
use Rattle.std.specs.Prelude.{All, Contains, IfSome, IsUtf8}
use Rattle.std.proofs.lemmas.List.Elements.{All-contains, All-weaker}
use Rattle.sig_json.specs.declared.limits.TheConstants.{LAST_NUMBER}
use Rattle.sig_terms.specs.declared.fact.Fact.{Fact}
use Rattle.sig_terms.specs.declared.token.Token.{Token}
use Rattle.sig_history.specs.Streams.{Made, Parts, made_in}
use Rattle.sig_history.specs.Facts.{made_by, parts_after, parts_of, tokens_of}
use Rattle.sig_history.specs.Owed.{Sum, empty_sum, owed_by, sum_of}
use Rattle.sig_history.specs.Sound.{Fits, is_sound}
use Rattle.sig_history.specs.Ours.{IsKept, IsMadeFor, IsOurFact, IsOurToken}
use Rattle.sig_history.proofs.JoinLemmas.{joined}
use Rattle.sig_owing.proofs.KeptLemmas.{kept_after}
use Rattle.sig_owing.proofs.SoundLemmas.{sound_more}
use Rattle.sig_calls.specs.Regular.{IsOwedAfter}
use Rattle.sig_law.specs.Law.{IsValidText, tokens_in}
use Rattle.sig_law.specs.World.{Ends, World, sum_in, with_facts, with_messages}
use Rattle.sig_law.proofs.Counted.{OwesItsOwn}
use Rattle.sig_law.proofs.Held.{IsCounted, IsHeld, IsMade, held_after, held_handing}

-- what holds of the world at each moment, with what keeps it so
pub record Holds (ends : Ends) (world : World) : Type 0 where
  pub kept : IsKept ends.rules.issuer ends.store_id (sum_in ends world) (tokens_in ends world)
  pub sound : is_sound (empty_sum ends.store_id) world.facts ≡ true
  pub held : IsHeld ends.rules.issuer ends.store_id (tokens_in ends world) world.facts world.journal world.messages world.replies
  pub valid : All (IsValidText ends) world.journal
  pub early : world.time ≤ LAST_NUMBER

-- ---- what is owed

-- what a stream owes is its own
pub owes_its_own : (ends : Ends) (world : World) → Holds ends world → OwesItsOwn (sum_in ends world)
owes_its_own ends world holds name =
    All-weaker (IsMadeFor (tokens_in ends world) name) (λ (t : Made). t.stream ≡ name) (λ t h. h.1) (owed_by (sum_in ends world) name)
    (holds.kept.owed name)

-- a token that is owed is one of these rules
pub owed_ours : (ends : Ends) (world : World) (m : Made) → Holds ends world → Contains (owed_by (sum_in ends world) m.stream) m
    → IsOurToken ends.rules.issuer ends.store_id m
owed_ours ends world m holds there =
    All-contains (IsOurToken ends.rules.issuer ends.store_id) (tokens_in ends world) m holds.kept.made
    (All-contains (IsMadeFor (tokens_in ends world) m.stream) (owed_by (sum_in ends world) m.stream) m (holds.kept.owed m.stream) there).0

-- ---- a fact more

tokens_more : (p : Parts) (facts : List Fact) (f : Fact) → tokens_of p (facts ++ f ∷ []) ≡ tokens_of p facts ++ made_by (parts_of p facts) f
tokens_more p [] f = append-nil (made_by p f)
tokens_more p (g ∷ facts) f =
    ap (λ l. made_by p g ++ l) (tokens_more (parts_after p g) facts f)
    ∙ sym (append_assoc (made_by p g) (tokens_of (parts_after p g) facts) (made_by (parts_of (parts_after p g) facts) f))

fact_holds : (ends : Ends) (world : World) (f : Fact) → IsUtf8 ends.rules.issuer → Holds ends world → Fits (sum_in ends world) f
    → IsOurFact ends.rules.issuer f → IsCounted ends.rules.issuer ends.store_id world.journal f
    → Holds ends (with_facts world (world.facts ++ f ∷ []))
fact_holds ends world f text holds fits ours counted =
    let base : Sum = empty_sum ends.store_id in
    let made : tokens_of base.parts (world.facts ++ f ∷ []) ≡ tokens_in ends world ++ made_by (parts_of base.parts world.facts) f =
    tokens_more base.parts world.facts f in
    record {
      kept = subst (λ s. IsKept ends.rules.issuer ends.store_id s (tokens_of base.parts (world.facts ++ f ∷ []))) (sym (joined base world.facts (f ∷ [])))
          (subst (IsKept ends.rules.issuer ends.store_id (sum_of (sum_in ends world) (f ∷ []))) (sym made)
          (kept_after ends.rules.issuer ends.store_id (sum_in ends world) (tokens_in ends world) f text holds.kept fits ours));
      sound = sound_more base world.facts f holds.sound fits;
      held = subst (λ l. IsHeld ends.rules.issuer ends.store_id l (world.facts ++ f ∷ []) world.journal world.messages world.replies) (sym made)
          (held_after ends.rules.issuer ends.store_id (tokens_in ends world) (made_by (parts_of base.parts world.facts) f) world.facts f
          world.journal world.messages world.replies holds.held counted);
      valid = holds.valid;
      early = holds.early;
    }

-- what a call's fact is, where there is one
pub facts_hold : (ends : Ends) (world : World) (o : Option Fact) → IsUtf8 ends.rules.issuer → Holds ends world
    → IfSome o (Fits (sum_in ends world)) → IfSome o (IsOurFact ends.rules.issuer)
    → IfSome o (IsCounted ends.rules.issuer ends.store_id world.journal)
    → Holds ends (with_facts world (world.facts ++ option_to_list o))
facts_hold ends world None text holds fits ours counted = subst (λ l. Holds ends (with_facts world l)) (sym (append-nil world.facts)) holds
facts_hold ends world (Some f) text holds fits ours counted = fact_holds ends world f text holds fits ours counted

-- ---- messages more

pub messages_hold : (ends : Ends) (world : World) (more : List Token) → Holds ends world → All (IsMade (tokens_in ends world)) more
    → Holds ends (with_messages world (world.messages ++ more))
messages_hold ends world more holds all = record {
  kept = holds.kept;
  sound = holds.sound;
  held = held_handing ends.rules.issuer ends.store_id (tokens_in ends world) world.facts world.journal world.messages more world.replies holds.held all;
  valid = holds.valid;
  early = holds.early;
}

-- what a stream owes after a call was made
pub handed_made : (ends : Ends) (before after : World) (o : Option Fact) (m : Token) → Holds ends after
    → after.facts ≡ before.facts ++ option_to_list o → IsOwedAfter (sum_in ends before) o m → IsMade (tokens_in ends after) m
handed_made ends before after o m holds same owed =
    let sum : sum_in ends after ≡ sum_of (sum_in ends before) (option_to_list o) =
    ap (sum_of (empty_sum ends.store_id)) same ∙ joined (empty_sum ends.store_id) before.facts (option_to_list o) in
    let there : Contains (owed_by (sum_in ends after) m.stream) (made_in m) =
    subst (λ s. Contains (owed_by s m.stream) (made_in m)) (sym sum) owed in
    (All-contains (IsMadeFor (tokens_in ends after) m.stream) (owed_by (sum_in ends after) m.stream) (made_in m) (holds.kept.owed m.stream) there).0
