-- How a receiver's records are taken up when its store is loaded.
use Rattle.std.specs.Prelude.{ℕ, List, [], ◌∷◌, Option, Some, None, Result, Ok, Err, ⊤, map}
use Rattle.sig_fields.specs.declared.fault.DecodeFault.{DecodeFault}
use Rattle.sig_entry.specs.Tokens.{decoded_token}
use Rattle.sig_receiver.specs.declared.take_fault.TakeFault.{TakeFault}
use Rattle.sig_receiver.specs.Receiver.{Received, nothing, received_of}
use Rattle.sig_receiver.specs.Taking.{text_taken}
use Rattle.sig_journal.specs.Taking.{Taking}
use Rattle.sig_rxnode.specs.declared.recording.RecordFault.{RecordFault}
use Rattle.sig_rxnode.specs.declared.recording.RecordFault.TheVariants.{Bad}

-- what is kept after a token text, where it says claims
abbrev pub after_text : Received → List ℕ → Result ⊤ TakeFault → Option Received
after_text state text (Ok taken) = Some (received_of state (text ∷ []))
after_text state text (Err fault) = None

-- what is kept after the text that a record spells, where it spells one
abbrev pub after_record : Received → Result (List ℕ) DecodeFault → Option Received
after_record state (Ok text) = after_text state text (text_taken text)
after_record state (Err fault) = None

-- a receiver's store begins with nothing kept, and each record is a token text that is taken up
abbrev pub receiving : Taking Received
receiving = record { start = λ store_id. nothing; step = λ state payload. after_record state (decoded_token payload) }

-- the text that a record spells, or nothing
abbrev pub text_or_none : Result (List ℕ) DecodeFault → List ℕ
text_or_none (Ok text) = text
text_or_none (Err fault) = []

-- the token texts of records
abbrev pub texts_of : List (List ℕ) → List (List ℕ)
texts_of payloads = map (λ payload. text_or_none (decoded_token payload)) payloads

-- the text that a record spells, or that it spells none
abbrev pub text_by : Result (List ℕ) DecodeFault → Result (List ℕ) RecordFault
text_by (Ok text) = Ok text
text_by (Err fault) = Err Bad

abbrev pub text_in : List ℕ → Result (List ℕ) RecordFault
text_in payload = text_by (decoded_token payload)
