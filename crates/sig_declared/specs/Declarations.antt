-- Streams as their receiver declares them: each is known by its description.
use Rattle.std.specs.Prelude.{◌≡◌, ◌≤◌, ◌<◌, ℕ, List, [], length, map, bytes_eq, true, Some, unwrap_or, Ok}
use Rattle.std.specs.List.{All, IsDistinct}
use Rattle.serde_json.specs.Data.{Data}
use Rattle.sig_stream.specs.Wants.{want_of}
use Rattle.sig_declared.specs.declared.declared.Declared.{Declared}
use Rattle.sig_declared.specs.declared.limits.TheConstants.{STREAMS_DECLARED}

-- a stream's description, the empty text where there is none
abbrev pub description_of : Declared → List ℕ
description_of s = unwrap_or s.want.description []

-- a description is given, and isn't empty
abbrev pub IsDescribed : Declared → Type 0
IsDescribed s = (text : List ℕ) × (s.want.description ≡ Some text) × (0 < length text)

-- streams that may be declared together: at most 16, each with a description, and no two with one
pub record AreDeclared (streams : List Declared) : Type 0 where
  pub few : length streams ≤ STREAMS_DECLARED
  pub described : All IsDescribed streams
  pub apart : IsDistinct bytes_eq (map description_of streams)

-- what is wanted of a stream is what a body says, as one that asks for the stream would
abbrev pub IsSaid : Declared → Type 0
IsSaid s = (body : Data) × (want_of true body ≡ Ok s.want)
