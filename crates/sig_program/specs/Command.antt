-- The words of the command line.
use Rattle.std.specs.Prelude.{ℕ, List, [], ◌∷◌, Bool, ◌&&◌, ◌==◌, Option, None, Some, option_map, bytes_eq, codes, length, nat_lt, if◌then◌else◌}
use Rattle.std.specs.List.{after_first, before_first, position_or_len}
use Rattle.sig_jws.specs.Key.{key_word_of}
use Rattle.sig_rs256.specs.Keys.{PublicKey}
use Rattle.sig_set.specs.RsaWords.{rsa_key_word}
use Rattle.sig_set.specs.declared.trust.Issuer.{Issuer}
use Rattle.sig_program.specs.declared.command.Command.{Command}
use Rattle.sig_program.specs.declared.command.Command.TheVariants.{Fold, Replay}

-- a word that isn't empty
abbrev pub is_filled : List ℕ → Bool
is_filled word = nat_lt 0 (length word)

-- the byte `:`
abbrev pub colon : ℕ
colon = 58

-- what stands before the first colon of a text and what stands after it, where it has one
abbrev pub cut_at_colon : List ℕ → Option (List ℕ × List ℕ)
cut_at_colon text =
    if nat_lt (position_or_len (λ b. b == colon) text) (length text)
    then Some (before_first (λ b. b == colon) text, after_first (λ b. b == colon) text) else None

-- an issuer with this secret, which has no name
abbrev pub with_secret : List ℕ → List ℕ → Issuer
with_secret iss bytes = record { iss = iss; keys = record { kid = None; bytes = bytes } ∷ []; public_keys = [] }

-- an issuer with this public key
abbrev pub with_public_key : List ℕ → PublicKey → Issuer
with_public_key iss key = record { iss = iss; keys = []; public_keys = key ∷ [] }

-- the issuer with the public key of the words `<n>:<e>`, which has no name (RFC 7518, section 6.3.1)
abbrev pub public_key_issuer : List ℕ → Option (List ℕ × List ℕ) → Option Issuer
public_key_issuer iss None = None
public_key_issuer iss (Some words) = option_map (with_public_key iss) (rsa_key_word None words.0 words.1)

-- the issuer with the key of a word that is cut at its first colon: `rs256:<n>:<e>` is a public key, a word without a colon a
-- secret
abbrev pub cut_issuer : List ℕ → List ℕ → Option (List ℕ × List ℕ) → Option Issuer
cut_issuer iss key None = option_map (with_secret iss) (key_word_of key)
cut_issuer iss key (Some cut) = if bytes_eq cut.0 (codes "rs256") then public_key_issuer iss (cut_at_colon cut.1) else None

abbrev pub issuer_of : List ℕ → List ℕ → Option Issuer
issuer_of iss key = cut_issuer iss key (cut_at_colon key)

-- `fold <issuer> <audience> <key>`, with a key word of a secret of 32 to 64 bytes, or of a public key
abbrev pub fold_command : List ℕ → List ℕ → List ℕ → Option Command
fold_command iss aud key =
    if is_filled iss && is_filled aud then option_map (λ issuer. Fold issuer aud) (issuer_of iss key) else None

-- the words after the name
abbrev pub fold_words : List (List ℕ) → Option Command
fold_words [] = None
fold_words (iss ∷ []) = None
fold_words (iss ∷ aud ∷ []) = None
fold_words (iss ∷ aud ∷ key ∷ []) = fold_command iss aud key
fold_words (iss ∷ aud ∷ key ∷ more ∷ words) = None

-- `replay`, alone
abbrev pub replay_words : List (List ℕ) → Option Command
replay_words [] = Some Replay
replay_words (word ∷ words) = None

-- the command that words are, none where they are none
abbrev pub command_of : List (List ℕ) → Option Command
command_of [] = None
command_of (name ∷ words) =
    if bytes_eq name (codes "fold") then fold_words words
    else if bytes_eq name (codes "replay") then replay_words words
    else None
