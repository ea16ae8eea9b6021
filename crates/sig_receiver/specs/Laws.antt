-- What holds of journals and of what is kept of them.
use Rattle.std.specs.Prelude.{◌≡◌, ℕ, List, ◌++◌, Option}
use Rattle.sig_set.specs.declared.trust.Trust.{Trust}
use Rattle.sig_receiver.specs.Journal.{answer_to}
use Rattle.sig_receiver.specs.Receiver.{Received, heard_at, received_of}

-- a journal in two parts: what is kept of the first part is the base of the second
abbrev pub Joins : Type 0
Joins = (base : Received) (first second : List (List ℕ)) → received_of base (first ++ second) ≡ received_of (received_of base first) second

-- the answer to a text over a journal is that over what is kept of the journal
abbrev pub AnswersByWhatIsKept : Type 0
AnswersByWhatIsKept =
    (trust : Trust) (base : Received) (principal named : Option (List ℕ)) (journal : List (List ℕ)) (text : List ℕ)
    → answer_to trust base.pairs principal named journal text ≡ heard_at trust principal named (received_of base journal) text
