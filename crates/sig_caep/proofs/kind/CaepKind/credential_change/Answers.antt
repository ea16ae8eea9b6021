use Rattle.std.proofs.Common.{◌≡◌, [], ◌∷◌, map, ◌∙◌, rules}
use Rattle.std.specs.Prelude.{Err, codes}
use Rattle.serde_json.specs.View.{view}
use Rattle.sig_json.specs.Checks.{first_failing}
use Rattle.sig_json.specs.Members.{Rule, AnyText, OneOf, required, text_in, value_of, member_checks}
use Rattle.sig_json.proofs.Decided.{value_is}
use Rattle.sig_json.proofs.MemberSteps.{stops_at, goes_on, ends_with}
use Rattle.sig_caep.specs.Lists.{change_text, changes, change_in}
use Rattle.sig_caep.specs.Events.{kind_in}
use Rattle.sig_caep.specs.declared.event_type.CaepType.TheVariants.{CredentialChange}
use Rattle.sig_caep.proofs.kind.CaepKind.credential_change.Goals as goal

abbrev first_rule : Rule
first_rule = required (codes "credential_type") AnyText

abbrev last_rule : Rule
last_rule = required (codes "change_type") (OneOf (map change_text changes))

pub returns-in_err-credential_type : goal.returns-in_err-credential_type
returns-in_err-credential_type c =
    let v = view c.args.payload.now in
    let is : c.from_residual.result ≡ Err c.in_err-credential_type.field-0.0 = search rules in
    stops_at first_rule (last_rule ∷ []) v (text_in (value_of (codes "credential_type") v)) (kind_in CredentialChange v) _ _ is c.in_err-credential_type.ensures

pub returns-in_err-change_type : goal.returns-in_err-change_type
returns-in_err-change_type c =
    let v = view c.args.payload.now in
    let is : c.from_residual-in_err-change_type.result ≡ Err c.in_err-change_type.field-0.0 = search rules in
    goes_on first_rule (last_rule ∷ []) v (text_in (value_of (codes "credential_type") v)) _ (kind_in CredentialChange v) _ c.in_ok-credential_type.ensures
    (stops_at last_rule [] v (change_in (value_of (codes "change_type") v)) (kind_in CredentialChange v) _ _ is c.in_err-change_type.ensures)

pub returns : goal.returns
returns c =
    let v = view c.args.payload.now in
    let first = value_is (first_failing (member_checks v first_rule)) (text_in (value_of (codes "credential_type") v)) _ c.in_ok-credential_type.ensures in
    let last = value_is (first_failing (member_checks v last_rule)) (change_in (value_of (codes "change_type") v)) _ c.in_ok-change_type.ensures in
    ends_with first_rule (last_rule ∷ []) v (text_in (value_of (codes "credential_type") v)) _ (kind_in CredentialChange v) c.in_ok-credential_type.ensures
    ∙ ends_with last_rule [] v (change_in (value_of (codes "change_type") v)) _ (kind_in CredentialChange v) c.in_ok-change_type.ensures
    ∙ cc (first, last)
