-- What is written in JSON has texts in UTF-8, as all texts of the programs are (RFC 8259, section 8.1).
use Rattle.std.specs.Prelude.{ℕ, List, IfSome, IsUtf8, All}
use Rattle.sig_terms.specs.declared.want.Delivery.{Delivery}
use Rattle.sig_terms.specs.declared.want.Delivery.TheVariants.{Poll, Push}
use Rattle.sig_terms.specs.declared.want.Want.{Want}

-- a list of such texts
abbrev pub AreTexts : List (List ℕ) → Type 0
AreTexts texts = All IsUtf8 texts

-- the texts of a push's URL and authorization
abbrev pub HasTexts : Delivery → Type 0
HasTexts Poll = Unit {0}
HasTexts (Push endpoint url authorization) = IsUtf8 url × IfSome authorization IsUtf8

-- the texts of a want
pub record IsWritten (w : Want) : Type 0 where
  pub requested : IfSome w.requested AreTexts
  pub delivery : IfSome w.delivery HasTexts
  pub description : IfSome w.description IsUtf8
