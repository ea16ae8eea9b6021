-- A client that reads, changes and deletes its streams.
use Rattle.std.proofs.lemmas.Bool.{and_from}
use Rattle.std.proofs.Common.{◌≡◌, ℕ, List, true, false, Some, None, IfSome, if◌then◌else◌, refl}
use Rattle.sig_terms.specs.declared.rules.Rules.{Rules}
use Rattle.sig_terms.specs.declared.want.Want.{Want}
use Rattle.sig_terms.specs.declared.configuration.StreamConf.{StreamConf}
use Rattle.sig_terms.specs.declared.answer.Answer.TheVariants as answer
use Rattle.sig_terms.specs.declared.call.Call.{Call}
use Rattle.sig_terms.specs.declared.call.Call.TheVariants.{Delete, Patch, Put, Read, ReadAll}
use Rattle.sig_terms.specs.declared.fact.Fact.TheVariants.{Configured, Deleted}
use Rattle.sig_history.specs.Streams.{Stream, stands}
use Rattle.sig_history.specs.Owed.{Sum}
use Rattle.sig_history.specs.Sound.{is_small}
use Rattle.sig_history.specs.Whole.{IsWhole}
use Rattle.sig_calls.specs.Configuring.{configured_change, confs_of, deleting, patched, patching, putting, reading, reading_all, reconfigured, replaced}
use Rattle.sig_calls.specs.Equality.{same_settings}
use Rattle.sig_calls.specs.Found.{client_stream, told_by}
use Rattle.sig_calls.specs.Proper.{IsProperCall}
use Rattle.sig_calls.specs.Told.{only, with_change}
use Rattle.sig_calls.proofs.FoundLemmas.{client_lawful, client_stands, found_lawful}
use Rattle.sig_calls.proofs.SizeLemmas.{IsSmallConf, created_small, found_small, patched_small}
use Rattle.sig_calls.proofs.ToldLemmas.{IsLawful, MayChange, change_lawful, maybe_lawful, only_lawful}

pub reading_all_lawful : (rules : Rules) (sum : Sum) (client : List ℕ) (now : ℕ) → IsLawful rules sum (ReadAll client) now (reading_all sum.parts client)
reading_all_lawful rules sum client now = only_lawful rules sum (ReadAll client) now (answer.Confs (confs_of client sum.parts.streams)) refl

pub reading_lawful : (rules : Rules) (sum : Sum) (client stream : List ℕ) (now : ℕ)
    → IsLawful rules sum (Read client stream) now (reading sum.parts client stream)
reading_lawful rules sum client stream now =
    client_lawful rules sum (Read client stream) now client stream (λ (s : Stream). only (answer.Conf s.conf))
    (λ s here. only_lawful rules sum (Read client stream) now (answer.Conf s.conf) refl)

configured_may : (rules : Rules) (sum : Sum) (call : Call) (now : ℕ) (stream : List ℕ) (old new : StreamConf) → stands stream sum.parts.streams ≡ true
    → (IsWhole sum → IsProperCall call → is_small new.requested new.delivery new.description ≡ true)
    → IfSome (configured_change stream old new) (MayChange rules sum call now)
configured_may rules sum call now stream old new here small =
    elim (same_settings old new) as (λ b. IfSome (if b then None else Some (Configured stream new.requested new.delivery new.description)) (MayChange rules sum call now)) [
      | true ↦ tt
      | false ↦ record {
        silent = λ t. refl;
        may = record {
          brings = refl;
          apt = λ whole proper. and_from (stands stream sum.parts.streams) (is_small new.requested new.delivery new.description) here (small whole proper);
          ours = λ proper early. tt;
          quiet = λ m. refl;
        };
      }
    ]

-- of whatever is made of the configuration, where it stays within the limits
reconfigured_lawful : (rules : Rules) (sum : Sum) (call : Call) (now : ℕ) (client stream : List ℕ) (anew : StreamConf → StreamConf)
    → (IsProperCall call → (c : StreamConf) → IsSmallConf c → IsSmallConf (anew c))
    → IsLawful rules sum call now (told_by (reconfigured stream anew) (client_stream client stream sum.parts.streams))
reconfigured_lawful rules sum call now client stream anew small =
    found_lawful rules sum call now client stream (reconfigured stream anew)
    (λ s is. maybe_lawful rules sum call now (answer.Conf (anew s.conf)) (configured_change stream s.conf (anew s.conf)) refl
    (configured_may rules sum call now stream s.conf (anew s.conf) (client_stands client stream sum.parts.streams s is)
    (λ whole proper. small proper s.conf (found_small client stream sum s whole is))))

pub patching_lawful : (rules : Rules) (sum : Sum) (client stream : List ℕ) (want : Want) (now : ℕ)
    → IsLawful rules sum (Patch client stream want) now (patching sum.parts client stream want)
patching_lawful rules sum client stream want now =
    reconfigured_lawful rules sum (Patch client stream want) now client stream (patched want) (λ proper c small. patched_small want c proper small)

pub putting_lawful : (rules : Rules) (sum : Sum) (client stream : List ℕ) (want : Want) (now : ℕ)
    → IsLawful rules sum (Put client stream want) now (putting sum.parts client stream want)
putting_lawful rules sum client stream want now =
    reconfigured_lawful rules sum (Put client stream want) now client stream (replaced want) (λ proper c small. created_small want proper)

pub deleting_lawful : (rules : Rules) (sum : Sum) (client stream : List ℕ) (now : ℕ)
    → IsLawful rules sum (Delete client stream) now (deleting sum.parts client stream)
deleting_lawful rules sum client stream now =
    client_lawful rules sum (Delete client stream) now client stream (λ (s : Stream). with_change answer.Gone (Some (Deleted stream)))
    (λ s here. change_lawful rules sum (Delete client stream) now answer.Gone (Deleted stream) refl (λ t. refl)
    (record { brings = refl; apt = λ whole proper. here; ours = λ proper early. tt; quiet = λ m. refl }))
