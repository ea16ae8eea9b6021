-- What a store tells whose file in force stays while the other one changes.
use Rattle.std.specs.Prelude.{◌≡◌, ℕ, List, Bool, Ok}
use Rattle.sig_journal.specs.declared.kind.Kind.{Kind}
use Rattle.sig_journal.specs.Journal.{store_with}
use Rattle.sig_journal.specs.Layout.{Content}

-- this file is in force beside the other one, as the second or as the first: the store tells what it holds
abbrev pub IsInForce : Bool → Kind → List ℕ → List ℕ → Content → Type 0
IsInForce in_b kind written other content = store_with in_b kind written other ≡ Ok (record { in_b = in_b; content = content })

-- with this image of the other file the store tells what it told before
abbrev pub TellsBefore : Kind → List ℕ → List ℕ → List ℕ → Type 0
TellsBefore kind written before image = (in_b : Bool) (content : Content) → IsInForce in_b kind written before content → IsInForce in_b kind written image content

-- the same beside each file in force
abbrev pub LeavesTold : List ℕ → List ℕ → Type 0
LeavesTold before image = (kind : Kind) (written : List ℕ) → TellsBefore kind written before image
