-- The words of a line, with one space between them.
use Rattle.std.specs.Prelude.{ℕ, List, ◌==◌, Bool, ◌&&◌, ◌||◌, Option, Some, None, is_none, option_and_then, option_map, bytes_eq, codes, length, nat_lt, if◌then◌else◌}
use Rattle.std.specs.List.{position_or_len, before_first, after_first}

-- what stands before the first space, and what stands after it
pub record Cut : Type 0 where
  pub word : List ℕ
  pub rest : List ℕ

abbrev pub is_space : ℕ → Bool
is_space b = b == 32

-- a text cut at its first space, where it has one
abbrev pub cut_at_space : List ℕ → Option Cut
cut_at_space text =
    if nat_lt (position_or_len is_space text) (length text)
    then Some (record { word = before_first is_space text; rest = after_first is_space text })
    else None

-- a last word: it has a byte, and no space
abbrev pub is_word : List ℕ → Bool
is_word text = nat_lt 0 (length text) && is_none (cut_at_space text)

-- the clients that there are
abbrev pub is_client : List ℕ → Bool
is_client name = bytes_eq name (codes "acme") || bytes_eq name (codes "zeta")

-- a client's name, and what stands after it
abbrev pub named_client : Cut → Option Cut
named_client c = if is_client c.word then Some c else None

abbrev pub client_cut : List ℕ → Option Cut
client_cut text = option_and_then named_client (cut_at_space text)

-- a stream's name, which isn't empty, and what stands after it
abbrev pub named_stream : Cut → Option Cut
named_stream c = if nat_lt 0 (length c.word) then Some c else None

abbrev pub stream_cut : List ℕ → Option Cut
stream_cut text = option_and_then named_stream (cut_at_space text)

-- a client's name, a stream's name, and what stands after them
pub record Names : Type 0 where
  pub client : List ℕ
  pub stream : List ℕ
  pub rest : List ℕ

abbrev pub names : List ℕ → Cut → Names
names client c = record { client = client; stream = c.word; rest = c.rest }

abbrev pub named_both : Cut → Option Names
named_both c = option_map (names c.word) (stream_cut c.rest)

abbrev pub names_cut : List ℕ → Option Names
names_cut text = option_and_then named_both (client_cut text)
