-- Which bases are proper: those that a snapshot can hold.
use Rattle.std.specs.Prelude.{◌<◌, ◌≤◌, ◌^◌, ℕ}
use Rattle.sig_json.specs.declared.limits.TheConstants.{LAST_NUMBER}
use Rattle.sig_fields.specs.Agreeing.{IsProperMaybe, IsProperText}
use Rattle.sig_terms.specs.declared.refused_token.RefusedToken.{RefusedToken}
use Rattle.sig_terms.specs.declared.token.Issued.{Issued}
use Rattle.sig_entry.specs.Proper.{IsProperConf, IsProperWords, IsShortNews, IsShortSubject, IsShortTold}
use Rattle.sig_base.specs.declared.base.Base.{Base}
use Rattle.sig_base.specs.declared.base.BasePublication.{BasePublication}
use Rattle.sig_base.specs.declared.base.BaseRefusals.{BaseRefusals}
use Rattle.sig_base.specs.declared.base.BaseStream.{BaseStream}
use Rattle.sig_base.specs.declared.base.BaseToken.{BaseToken}
use Rattle.sig_base.specs.declared.base.ClientCount.{ClientCount}
use Rattle.sig_base.specs.Lists.{IsProperLong}

-- a number that eight bytes hold, and a time
abbrev pub IsNumber : ℕ → Type 0
IsNumber n = n < 2 ^ 64

abbrev pub IsTime : ℕ → Type 0
IsTime n = n ≤ LAST_NUMBER

abbrev pub IsProperClient : ClientCount → Type 0
IsProperClient c = IsProperText c.client × IsNumber c.created

abbrev pub IsProperToken : BaseToken → Type 0
IsProperToken t = IsNumber t.number × IsTime t.iat × IsShortTold t.news

pub record IsProperStream (s : BaseStream) : Type 0 where
  pub conf : IsProperConf s.conf
  pub reason : IsProperWords s.reason
  pub listed : IsProperLong IsShortSubject s.listed
  pub asked : IsProperMaybe IsTime s.asked
  pub made : IsNumber s.made
  pub owed : IsProperLong IsProperToken s.owed

abbrev pub IsProperIssued : Issued → Type 0
IsProperIssued i = IsProperText i.stream × IsNumber i.number

abbrev pub IsProperPublication : BasePublication → Type 0
IsProperPublication p = IsProperText p.id × IsShortNews p.news × IsProperLong IsProperIssued p.tokens

pub record IsProperRefused (t : RefusedToken) : Type 0 where
  pub stream : IsProperText t.stream
  pub number : IsNumber t.number
  pub id : IsProperWords t.id
  pub code : IsProperWords t.code
  pub time : IsTime t.time

abbrev pub AreProperRefusals : BaseRefusals → Type 0
AreProperRefusals r = IsNumber r.before × IsProperLong IsProperRefused r.kept

-- its texts are UTF-8 of fewer than 2^32 bytes, its lists of texts have fewer than 2^32 items and its other lists and its numbers are below
-- 2^64, its subjects and events are proper, its endpoints are those that their urls spell, its times are at most 2^62 and its intervals at
-- most 86,400
pub record IsProperBase (b : Base) : Type 0 where
  pub clients : IsProperLong IsProperClient b.clients
  pub streams : IsProperLong IsProperStream b.streams
  pub publications : IsProperLong IsProperPublication b.publications
  pub refusals : AreProperRefusals b.refusals
