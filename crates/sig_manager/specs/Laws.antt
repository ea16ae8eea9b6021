-- What holds of every exchange.
use Rattle.std.specs.Prelude.{◌≡◌, ◌<◌, ◌+◌, ◌*◌, ℕ, List, ◌∷◌, length, Bool, true, Some, Ok}
use Rattle.serde_json.specs.Data.{Data}
use Rattle.sig_http.specs.declared.message.Response.{Response}
use Rattle.sig_terms.specs.declared.want.Want.{Want}
use Rattle.sig_stream.specs.Wants.{want_of}
use Rattle.sig_declared.specs.declared.declared.Declared.{Declared}
use Rattle.sig_manager.specs.Asking.{replaced_data, want_data}
use Rattle.sig_manager.specs.Exchange.{Managed, heard}
use Rattle.sig_manager.specs.Measure.{weight_of}
use Rattle.sig_manager.specs.Planning.{creates_of, deletes_of, replaces_of, statuses_of, steps_of}
use Rattle.sig_manager.specs.declared.listed.Listed.{Listed}
use Rattle.sig_manager.specs.declared.step.Step.{Step}

-- ---- the bound

-- each answered step leaves fewer requests that may be made
abbrev pub EachStepFalls : Type 0
EachStepFalls = (m after : Managed) (s : Step) (rest steps : List Step) (response : Response) → m.steps ≡ Some (s ∷ rest)
    → heard m response ≡ Ok after → after.steps ≡ Some steps → weight_of steps < weight_of (s ∷ rest)

-- after the list: two for each status and each stream that is created, one for each that is deleted or replaced
abbrev pub ListBounds : Type 0
ListBounds = (declared : List Declared) (listed : List Listed) → weight_of (steps_of declared listed)
    ≡ 2 * length (statuses_of declared listed) + length (deletes_of declared listed)
    + length (replaces_of declared listed) + 2 * length (creates_of declared listed)

-- ---- what is written of wants

-- a want that was read of something is read back of its object, also where that names the stream; a gateway more takes
-- nothing away
abbrev pub WantsAreReadBack : Type 0
WantsAreReadBack = (gateway : Bool) (d : Data) (w : Want) → want_of gateway d ≡ Ok w → want_of true (want_data w) ≡ Ok w

abbrev pub ReplacedWantsAreReadBack : Type 0
ReplacedWantsAreReadBack = (gateway : Bool) (d : Data) (stream : List ℕ) (w : Want) → want_of gateway d ≡ Ok w
    → want_of true (replaced_data stream w) ≡ Ok w
