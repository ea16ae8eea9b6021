-- What holds of what is kept and of the texts that were acknowledged.
use Rattle.std.specs.Prelude.{◌≡◌, ℕ, List, Option, Bool, true, false}
use Rattle.sig_inbox.specs.Pairs.{has_pair}
use Rattle.sig_set.specs.Judgement.{claims_of}
use Rattle.sig_set.specs.declared.trust.Trust.{Trust}
use Rattle.sig_receiver.specs.declared.heard.Heard.{Heard}
use Rattle.sig_receiver.specs.declared.heard.Heard.TheVariants.{Accepted, Seen, NotTaken}
use Rattle.sig_receiver.specs.Journal.{journal_by, pair_of, pairs_of}
use Rattle.sig_receiver.specs.Receiver.{Received, heard_at, nothing, received_of}
use Rattle.sig_rxnode.specs.declared.turn.RxTurn.{RxTurn}
use Rattle.sig_rxnode.specs.Turns.{after_turns, changes_of}

-- a token was accepted or had been seen
abbrev pub is_acknowledged : Heard → Bool
is_acknowledged Accepted = true
is_acknowledged Seen = true
is_acknowledged (NotTaken code spot) = false

-- a text that is acknowledged over what is kept of texts has its pair among those of the texts after the call
abbrev pub AcknowledgedStand : Type 0
AcknowledgedStand =
    (trust : Trust) (principal named : Option (List ℕ)) (texts : List (List ℕ)) (text : List ℕ)
    → is_acknowledged (heard_at trust principal named (received_of nothing texts) text) ≡ true
    → has_pair (pair_of (claims_of text)) (pairs_of (journal_by (heard_at trust principal named (received_of nothing texts) text) texts text)) ≡ true

-- whatever the turns are, what is kept after them is that of their texts over what was kept before
abbrev pub TurnsAreAHistory : Type 0
TurnsAreAHistory = (trust : Trust) (base : Received) (turns : List RxTurn) → after_turns trust base turns ≡ received_of base (changes_of trust base turns)
