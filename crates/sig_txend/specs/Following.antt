-- The push rounds after a request: where some follow, over which streams, and what they make (RFC 8935, section 2).
use Rattle.std.specs.Prelude.{◌≡◌, ◌⊎◌, Bool, true, false, List, [], ◌∷◌, map, Option, Some, None, Result, Ok, Err, ℕ, bytes_eq, filter, option_map}
use Rattle.std.specs.List.{list_any}
use Rattle.sig_history.specs.Streams.{client_in}
use Rattle.sig_journal.specs.declared.node_fault.NodeFault.{NodeFault}
use Rattle.sig_links.specs.Views.{SideView}
use Rattle.sig_round.specs.Rounds.{AreRounds}
use Rattle.sig_round.specs.Turns.{Asker}
use Rattle.sig_terms.specs.declared.answer.Answer.{Answer}
use Rattle.sig_terms.specs.declared.answer.Answer.TheVariants.{Published, Asked, State, Delivering}
use Rattle.sig_terms.specs.declared.rules.Client.{Client}
use Rattle.sig_terms.specs.declared.rules.Rules.{Rules}
use Rattle.sig_terms.specs.declared.token.Issued.{Issued}
use Rattle.sig_txnode.specs.declared.turn.Turn.{Turn}

-- the streams that an answer names for push rounds: those of the tokens of a publication, that of a verification, that of a
-- change of status which made a token, and that of which a round was asked. No round follows any other answer
abbrev pub streams_named : Answer → Option (List (List ℕ))
streams_named (Published store_id tokens) = Some (map (λ (t : Issued). t.stream) tokens)
streams_named (Asked stream number) = Some (stream ∷ [])
streams_named (State stream status reason (Some number)) = Some (stream ∷ [])
streams_named (Delivering stream) = Some (stream ∷ [])
streams_named _ = None

-- whether the client whose stream has this name is one of the rules'
abbrev pub has_client : Rules → List ℕ → Bool
has_client rules stream = list_any (λ (c : Client). bytes_eq c.name (client_in stream)) rules.clients

-- the streams of these clients that the result of a turn names. To a stream of another client, who was in the settings once,
-- nothing is handed out
abbrev pub streams_in : Rules → Result Answer NodeFault → Option (List (List ℕ))
streams_in rules (Ok answer) = option_map (filter (has_client rules)) (streams_named answer)
streams_in rules (Err fault) = None

-- the push rounds of these streams, if any, made these turns, did so to the side, and ended so: memory ran out, or didn't. It
-- may run out before the first. A stream may be passed over of which this holds
abbrev pub AreRoundsOver : (List ℕ → Type 0) → Rules → Asker → Option (List (List ℕ)) → SideView → SideView → List Turn → Bool → Type 0
AreRoundsOver passes rules by None before after pushes starved = (pushes ≡ []) × (after ≡ before) × (starved ≡ false)
AreRoundsOver passes rules by (Some streams) before after pushes starved =
    AreRounds passes rules by streams before after pushes starved ⊎ ((pushes ≡ []) × (after ≡ before) × (starved ≡ true))

-- push rounds follow a turn, over the streams that its answer names and whose clients the rules have: under the number of its
-- link, and at its time
abbrev pub PushesAfter : (List ℕ → Type 0) → Rules → Turn → List Turn → Bool → SideView → SideView → Type 0
PushesAfter passes rules turn more starved before after =
    AreRoundsOver passes rules (record { link = turn.link; now = turn.now }) (streams_in rules turn.result) before after more starved
