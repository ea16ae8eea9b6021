-- The text of a poll response, part by part.
use Rattle.std.proofs.Common.{◌≡◌, ℕ, List, [], ◌∷◌, ◌++◌, Bool, true, false, refl, sym, ap, ◌∙◌, append_assoc}
use Rattle.std.specs.Prelude.{codes}
use Rattle.json.specs.Print.{escape_byte, quoted}
use Rattle.serde_json.specs.Data.{Members, member, string}
use Rattle.serde_json.specs.Written.{comma_if, compact_text, members_text}
use Rattle.sig_delivery.specs.declared.sets.Listed.{Listed}
use Rattle.sig_jws.specs.declared.key.Key.{Key}
use Rattle.sig_set.specs.Written.{header_text_of}
use Rattle.sig_terms.specs.declared.token.Token.{Token}
use Rattle.sig_delivery.specs.Entries.{name_text, payload_entries, signed_entries, start_of}
use Rattle.sig_delivery.specs.Sets.{listed, listed_members, sets_data, sets_text}
use Rattle.sig_delivery.proofs.PutTokens.{all_listed}

-- its beginning, its tokens, and the end of the object
pub parts : (more : Bool) (ls : List Listed) → compact_text (sets_data more ls) ≡ start_of more ++ (members_text false (listed_members ls) ++ codes "}")
unfolding escape_byte
parts true ls = refl
parts false ls = refl

-- a name that was added in parts
pub name_added : (later : Bool) (text name : List ℕ) → ((text ++ comma_if later) ++ quoted name) ++ 58 ∷ [] ≡ text ++ name_text later name
name_added later text name =
    append_assoc (text ++ comma_if later) (quoted name) (58 ∷ []) ∙ append_assoc text (comma_if later) (quoted name ++ 58 ∷ [])

-- a member that was added, before others
pub member_added : (later : Bool) (text name token : List ℕ) (ms : Members)
    → text ++ members_text later (member name (string token) ms) ≡ ((text ++ name_text later name) ++ quoted token) ++ members_text true ms
member_added later text name token ms =
    let inner : name_text later name ++ (quoted token ++ members_text true ms) ≡ members_text later (member name (string token) ms) =
    append_assoc (comma_if later) (quoted name ++ 58 ∷ []) (quoted token ++ members_text true ms)
    ∙ ap (λ t. comma_if later ++ t) (append_assoc (quoted name) (58 ∷ []) (quoted token ++ members_text true ms)) in
    sym (append_assoc (text ++ name_text later name) (quoted token) (members_text true ms)
    ∙ append_assoc text (name_text later name) (quoted token ++ members_text true ms)
    ∙ ap (λ t. text ++ t) inner)

-- the text as it is put together
pub put_together : (more : Bool) (tokens : List Token) (key : Key)
    → (start_of more ++ members_text false (listed_members (signed_entries (header_text_of key.kid) key.bytes (payload_entries tokens)))) ++ 125 ∷ [] ≡ sets_text tokens more key
put_together more tokens key =
    append_assoc (start_of more) (members_text false (listed_members (signed_entries (header_text_of key.kid) key.bytes (payload_entries tokens)))) (125 ∷ [])
    ∙ ap (λ ls. start_of more ++ (members_text false (listed_members ls) ++ 125 ∷ [])) (all_listed key tokens)
    ∙ sym (parts more (listed key tokens))
