-- Formats and their names.
use Rattle.std.proofs.Common.{◌≡◌, ℕ, List, [], ◌∷◌, Bool, true, false, bytes_eq, codes, unwrap_or, Some, refl, sym, ap, ◌∙◌}
use Rattle.serde_json.specs.Data.{Data}
use Rattle.sig_subject.proofs.Identity.{text_sound}
use Rattle.sig_subject.specs.declared.format.Format.{Format}
use Rattle.sig_subject.specs.declared.format.Format.TheVariants.{Plain, Aliases, Complex}
use Rattle.sig_subject.specs.declared.format.PlainFormat.TheVariants.{Account, Email, IssSub, Opaque, Phone, Did, Uri, JwtId, Saml, Unknown}
use Rattle.sig_subject.specs.Formats.{format_in, formats}
use Rattle.sig_subject.specs.Reading.{format_of}
use Rattle.sig_subject.specs.Subjects.{HasFormat}

-- the name of a known format
abbrev pub name_of : Format → List ℕ
name_of (Plain Account) = codes "account"
name_of (Plain Email) = codes "email"
name_of (Plain IssSub) = codes "iss_sub"
name_of (Plain Opaque) = codes "opaque"
name_of (Plain Phone) = codes "phone_number"
name_of (Plain Did) = codes "did"
name_of (Plain Uri) = codes "uri"
name_of (Plain JwtId) = codes "jwt_id"
name_of (Plain Saml) = codes "saml_assertion_id"
name_of (Plain Unknown) = []
name_of Aliases = codes "aliases"
name_of Complex = codes "complex"

abbrev pub is_known : Format → Bool
is_known (Plain Account) = true
is_known (Plain Email) = true
is_known (Plain IssSub) = true
is_known (Plain Opaque) = true
is_known (Plain Phone) = true
is_known (Plain Did) = true
is_known (Plain Uri) = true
is_known (Plain JwtId) = true
is_known (Plain Saml) = true
is_known (Plain Unknown) = false
is_known Aliases = true
is_known Complex = true

AreNamed : List (List ℕ × Format) → Type 0
AreNamed [] = Unit {0}
AreNamed (g ∷ gs) = (g.0 ≡ name_of g.1) × AreNamed gs

name_in : (name : List ℕ) (fs : List (List ℕ × Format)) (f : Format) → AreNamed fs → is_known f ≡ true → format_in name fs ≡ f → name ≡ name_of f
unfolding AreNamed
name_in name [] f named known h = absurd (unknown (ap is_known h ∙ known))
  where
    unknown : false ≡ true → ⊥
    unknown e = cc
name_in name (g ∷ gs) f named known h = by_test (bytes_eq name g.0) refl (name_in name gs f named.1 known)
  where
    by_test : (b : Bool) → bytes_eq name g.0 ≡ b → (format_in name gs ≡ f → name ≡ name_of f) → name ≡ name_of f
    by_test true e more = text_sound name g.0 e ∙ named.0 ∙ ap name_of (rw e at h)
    by_test false e more = more (rw e at h)

-- a value of a known format has its name
pub named_by : (v : Data) (name : List ℕ) (f : Format) → HasFormat name v → is_known f ≡ true → format_of v ≡ f → HasFormat (name_of f) v
unfolding AreNamed
named_by v name f named known is =
    let same : name ≡ name_of f = name_in name formats f (refl, (refl, (refl, (refl, (refl, (refl, (refl, (refl, (refl, (refl, (refl, tt))))))))))) known (ap (λ o. format_in (unwrap_or o []) formats) (sym named) ∙ is) in
    named ∙ ap Some same

-- the format of a value that names it
pub format_is : (v : Data) (name : List ℕ) (f : Format) → HasFormat name v → format_in name formats ≡ f → format_of v ≡ f
format_is v name f named is = ap (λ o. format_in (unwrap_or o []) formats) named ∙ is
