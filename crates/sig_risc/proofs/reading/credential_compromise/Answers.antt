use Rattle.std.proofs.Common.{◌≡◌, [], ◌∙◌, rules}
use Rattle.std.specs.Prelude.{Err, codes}
use Rattle.serde_json.specs.View.{view}
use Rattle.sig_json.specs.Checks.{first_failing}
use Rattle.sig_json.specs.Members.{Rule, AnyText, required, text_in, value_of, member_checks}
use Rattle.sig_json.proofs.Decided.{value_is}
use Rattle.sig_json.proofs.MemberSteps.{stops_at, ends_with}
use Rattle.sig_risc.specs.Events.{event_in}
use Rattle.sig_risc.specs.declared.event_type.RiscType.TheVariants.{CredentialCompromise}
use Rattle.sig_risc.proofs.reading.credential_compromise.Goals as goal

abbrev credential_type_rule : Rule
credential_type_rule = required (codes "credential_type") AnyText

pub returns-in_err-credential_type : goal.returns-in_err-credential_type
returns-in_err-credential_type c =
    let v = view c.args.payload.now in
    let is : c.from_residual.result ≡ Err c.in_err-credential_type.field-0.0 = search rules in
    stops_at credential_type_rule ([]) v (text_in (value_of (codes "credential_type") v)) (event_in CredentialCompromise v) _ _ is c.in_err-credential_type.ensures

pub returns : goal.returns
returns c =
    let v = view c.args.payload.now in
    let credential_type_is = value_is (first_failing (member_checks v credential_type_rule)) (text_in (value_of (codes "credential_type") v)) _ c.in_ok-credential_type.ensures in
    ends_with credential_type_rule ([]) v (text_in (value_of (codes "credential_type") v)) _ (event_in CredentialCompromise v) c.in_ok-credential_type.ensures
    ∙ cc credential_type_is
