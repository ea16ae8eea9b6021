-- An identifier without parts is read exactly where the value is it.
use Rattle.std.proofs.Common.{◌≡◌, ℕ, List, [], ◌∷◌, Bool, true, false, not, codes, unwrap_or, refl, sym, ap, ◌∙◌}
use Rattle.serde_json.specs.Data.{Data}
use Rattle.serde_json.specs.Written.{has_float}
use Rattle.sig_subject.proofs.Fields.{fills_text, holds_only, only_holds, text_fills, text_in_is}
use Rattle.sig_subject.proofs.FormatNames.{format_is, named_by}
use Rattle.sig_subject.proofs.Passing.{Passes, passes_cons, passes_head, passes_tail}
use Rattle.sig_subject.specs.declared.format.Format.TheVariants as format
use Rattle.sig_subject.specs.declared.format.PlainFormat.{PlainFormat}
use Rattle.sig_subject.specs.declared.format.PlainFormat.TheVariants as plain_format
use Rattle.sig_subject.specs.declared.plain.Plain.{Plain}
use Rattle.sig_subject.specs.declared.plain.Plain.TheVariants as plain
use Rattle.sig_subject.specs.Formats.{field, format_in, formats}
use Rattle.sig_subject.specs.Reading.{field_check, format_of, has_no_other, plain_by, plain_checks, text_in}
use Rattle.sig_subject.specs.Subjects.{HasFormat, HasOnly, HasText, PlainIs}

-- how the identifier is read
pub record PlainRead (p : Plain) (f : PlainFormat) (v : Data) : Type 0 where
  pub name : List ℕ
  pub named : HasFormat name v
  pub is : format_of v ≡ format.Plain f
  pub passes : Passes (plain_checks f v)
  pub by : plain_by f v ≡ p

one_passes : (kind name prefix : List ℕ) (v : Data) (text : List ℕ) → HasOnly kind (name ∷ []) v → HasText name prefix v text
    → Passes (field_check v (field name prefix) ∷ has_no_other (name ∷ []) v ∷ [])
one_passes kind name prefix v text only is =
    passes_cons (field_check v (field name prefix)) (has_no_other (name ∷ []) v ∷ []) (fills_text name prefix v text is)
    (passes_cons (has_no_other (name ∷ []) v) [] (only_holds kind (name ∷ []) v only) refl)

two_pass : (kind one two : List ℕ) (v : Data) (a b : List ℕ) → HasOnly kind (one ∷ two ∷ []) v → HasText one [] v a → HasText two [] v b
    → Passes (field_check v (field one []) ∷ field_check v (field two []) ∷ has_no_other (one ∷ two ∷ []) v ∷ [])
two_pass kind one two v a b only first second =
    passes_cons (field_check v (field one [])) (field_check v (field two []) ∷ has_no_other (one ∷ two ∷ []) v ∷ []) (fills_text one [] v a first)
    (passes_cons (field_check v (field two [])) (has_no_other (one ∷ two ∷ []) v ∷ []) (fills_text two [] v b second)
    (passes_cons (has_no_other (one ∷ two ∷ []) v) [] (only_holds kind (one ∷ two ∷ []) v only) refl))

pair : {A : Type 0} (f : List ℕ → List ℕ → A) (a b c d : List ℕ) → a ≡ c → b ≡ d → f a b ≡ f c d
pair f a b c d h k = rw (h, k) refl

pub plain_reads : (p : Plain) (v : Data) → PlainIs p v → (f : PlainFormat) × PlainRead p f v
plain_reads (plain.Account uri) v h = (
  plain_format.Account,
  record {
    name = codes "account";
    named = h.0.named;
    is = format_is v _ _ h.0.named refl;
    passes = one_passes _ (codes "uri") (codes "acct:") v uri h.0 h.1;
    by = ap plain.Account (text_in_is _ _ v uri h.1);
  },
)
plain_reads (plain.Email email) v h = (
  plain_format.Email,
  record {
    name = codes "email";
    named = h.0.named;
    is = format_is v _ _ h.0.named refl;
    passes = one_passes _ (codes "email") [] v email h.0 h.1;
    by = ap plain.Email (text_in_is _ _ v email h.1);
  },
)
plain_reads (plain.IssSub iss sub) v h = (
  plain_format.IssSub,
  record {
    name = codes "iss_sub";
    named = h.0.named;
    is = format_is v _ _ h.0.named refl;
    passes = two_pass _ (codes "iss") (codes "sub") v iss sub h.0 h.1 h.2;
    by = pair plain.IssSub _ _ _ _ (text_in_is _ _ v iss h.1) (text_in_is _ _ v sub h.2);
  },
)
plain_reads (plain.Opaque id) v h = (
  plain_format.Opaque,
  record {
    name = codes "opaque";
    named = h.0.named;
    is = format_is v _ _ h.0.named refl;
    passes = one_passes _ (codes "id") [] v id h.0 h.1;
    by = ap plain.Opaque (text_in_is _ _ v id h.1);
  },
)
plain_reads (plain.Phone number) v h = (
  plain_format.Phone,
  record {
    name = codes "phone_number";
    named = h.0.named;
    is = format_is v _ _ h.0.named refl;
    passes = one_passes _ (codes "phone_number") [] v number h.0 h.1;
    by = ap plain.Phone (text_in_is _ _ v number h.1);
  },
)
plain_reads (plain.Did url) v h = (
  plain_format.Did,
  record {
    name = codes "did";
    named = h.0.named;
    is = format_is v _ _ h.0.named refl;
    passes = one_passes _ (codes "url") (codes "did:") v url h.0 h.1;
    by = ap plain.Did (text_in_is _ _ v url h.1);
  },
)
plain_reads (plain.Uri uri) v h = (
  plain_format.Uri,
  record {
    name = codes "uri";
    named = h.0.named;
    is = format_is v _ _ h.0.named refl;
    passes = one_passes _ (codes "uri") [] v uri h.0 h.1;
    by = ap plain.Uri (text_in_is _ _ v uri h.1);
  },
)
plain_reads (plain.JwtId iss jti) v h = (
  plain_format.JwtId,
  record {
    name = codes "jwt_id";
    named = h.0.named;
    is = format_is v _ _ h.0.named refl;
    passes = two_pass _ (codes "iss") (codes "jti") v iss jti h.0 h.1 h.2;
    by = pair plain.JwtId _ _ _ _ (text_in_is _ _ v iss h.1) (text_in_is _ _ v jti h.2);
  },
)
plain_reads (plain.Saml issuer assertion) v h = (
  plain_format.Saml,
  record {
    name = codes "saml_assertion_id";
    named = h.0.named;
    is = format_is v _ _ h.0.named refl;
    passes = two_pass _ (codes "issuer") (codes "assertion_id") v issuer assertion h.0 h.1 h.2;
    by = pair plain.Saml _ _ _ _ (text_in_is _ _ v issuer h.1) (text_in_is _ _ v assertion h.2);
  },
)
plain_reads (plain.Unknown canon) v h = (
  plain_format.Unknown,
  record {
    name = h.0.0;
    named = h.0.1;
    is = format_is v _ _ h.0.1 h.0.2;
    passes = rw h.1 refl;
    by = ap plain.Unknown (sym h.2);
  },
)

one_read : (kind name prefix : List ℕ) (v : Data) → HasFormat kind v → Passes (field_check v (field name prefix) ∷ has_no_other (name ∷ []) v ∷ [])
    → HasOnly kind (name ∷ []) v × HasText name prefix v (text_in name v)
one_read kind name prefix v named h =
    let field = field_check v (field name prefix) in
    let others = has_no_other (name ∷ []) v in
    (holds_only kind (name ∷ []) v named (passes_head others [] (passes_tail field (others ∷ []) h)), text_fills name prefix v (passes_head field (others ∷ []) h))

two_read : (kind one two : List ℕ) (v : Data) → HasFormat kind v → Passes (field_check v (field one []) ∷ field_check v (field two []) ∷ has_no_other (one ∷ two ∷ []) v ∷ [])
    → HasOnly kind (one ∷ two ∷ []) v × HasText one [] v (text_in one v) × HasText two [] v (text_in two v)
two_read kind one two v named h =
    let first = field_check v (field one []) in
    let second = field_check v (field two []) in
    let others = has_no_other (one ∷ two ∷ []) v in
    let rest = passes_tail first (second ∷ others ∷ []) h in (
      holds_only kind (one ∷ two ∷ []) v named (passes_head others [] (passes_tail second (others ∷ []) rest)),
      text_fills one [] v (passes_head first (second ∷ others ∷ []) h),
      text_fills two [] v (passes_head second (others ∷ []) rest),
    )

not_true : (b : Bool) → not b ≡ true → b ≡ false
not_true true h = cc
not_true false h = refl

pub plain_is : (f : PlainFormat) (v : Data) (name : List ℕ) → HasFormat name v → format_of v ≡ format.Plain f → Passes (plain_checks f v) → PlainIs (plain_by f v) v
plain_is plain_format.Account v name named is h = one_read (codes "account") (codes "uri") (codes "acct:") v (named_by v name (format.Plain plain_format.Account) named refl is) h
plain_is plain_format.Email v name named is h = one_read (codes "email") (codes "email") [] v (named_by v name (format.Plain plain_format.Email) named refl is) h
plain_is plain_format.IssSub v name named is h = two_read (codes "iss_sub") (codes "iss") (codes "sub") v (named_by v name (format.Plain plain_format.IssSub) named refl is) h
plain_is plain_format.Opaque v name named is h = one_read (codes "opaque") (codes "id") [] v (named_by v name (format.Plain plain_format.Opaque) named refl is) h
plain_is plain_format.Phone v name named is h = one_read (codes "phone_number") (codes "phone_number") [] v (named_by v name (format.Plain plain_format.Phone) named refl is) h
plain_is plain_format.Did v name named is h = one_read (codes "did") (codes "url") (codes "did:") v (named_by v name (format.Plain plain_format.Did) named refl is) h
plain_is plain_format.Uri v name named is h = one_read (codes "uri") (codes "uri") [] v (named_by v name (format.Plain plain_format.Uri) named refl is) h
plain_is plain_format.JwtId v name named is h = two_read (codes "jwt_id") (codes "iss") (codes "jti") v (named_by v name (format.Plain plain_format.JwtId) named refl is) h
plain_is plain_format.Saml v name named is h = two_read (codes "saml_assertion_id") (codes "issuer") (codes "assertion_id") v (named_by v name (format.Plain plain_format.Saml) named refl is) h
plain_is plain_format.Unknown v name named is h =
    ((name, named, ap (λ o. format_in (unwrap_or o []) formats) (sym named) ∙ is), not_true (has_float v) (passes_head _ [] h), refl)
