-- The target of a request (RFC 9112, section 3.2).
use Rattle.std.specs.Prelude.{ℕ, ◌==◌, Bool, ◌||◌, List, [], ◌∷◌, if◌then◌else◌, Option, Some, None, option_and_then, codes}
use Rattle.std.specs.List.{list_any, before_first, after_first}
use Rattle.std.specs.Str.{str_eq_ignore_ascii_case}

-- the byte `#`, at which a fragment begins: no target has one
abbrev pub is_hash : ℕ → Bool
is_hash b = b == 35

abbrev pub has_fragment : List ℕ → Bool
has_fragment target = list_any is_hash target

-- the byte `:` after a scheme
abbrev pub is_colon : ℕ → Bool
is_colon b = b == 58

-- the byte `/`
abbrev pub slash : ℕ
slash = 47

abbrev pub is_slash : ℕ → Bool
is_slash b = b == slash

abbrev pub slashed : List ℕ → List ℕ
slashed text = slash ∷ text

-- the scheme of a server here, in any case of its letters (RFC 9110, section 4.2)
abbrev pub is_web : List ℕ → Bool
is_web scheme = str_eq_ignore_ascii_case scheme (codes "http") || str_eq_ignore_ascii_case scheme (codes "https")

-- what follows a slash at the start, and two
abbrev pub after_slash : List ℕ → Option (List ℕ)
after_slash [] = None
after_slash (b ∷ text) = if is_slash b then Some text else None

abbrev pub after_slashes : List ℕ → Option (List ℕ)
after_slashes text = option_and_then after_slash (after_slash text)

-- the absolute form: what stands after `http://` or `https://`
abbrev pub after_scheme : List ℕ → Option (List ℕ)
after_scheme target = if is_web (before_first is_colon target) then after_slashes (after_first is_colon target) else None

-- its path follows the authority, and one that isn't there is `/` (RFC 9112, section 3.2.2); any other target is its path
abbrev pub path_after : List ℕ → Option (List ℕ) → List ℕ
path_after target None = target
path_after target (Some rest) = slashed (after_first is_slash rest)

-- the path of a target that ends before its first `?`
abbrev pub path_in : List ℕ → List ℕ
path_in target = path_after target (after_scheme target)
