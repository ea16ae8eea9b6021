use Rattle.std.proofs.Common.{[], ◌∷◌, map, ◌∙◌}
use Rattle.std.specs.Prelude.{codes, option_map}
use Rattle.serde_json.specs.View.{view}
use Rattle.sig_json.specs.Checks.{first_failing}
use Rattle.sig_json.specs.Json.{member_of}
use Rattle.sig_json.specs.Members.{Rule, AnyText, OneOf, required, optional, text_in, value_of, member_checks}
use Rattle.sig_json.proofs.Decided.{value_is}
use Rattle.sig_json.proofs.MemberSteps.{ends_with}
use Rattle.sig_caep.specs.Lists.{principal_text, principals, principal_in, risk_level_text, risk_levels, risk_level_in}
use Rattle.sig_caep.specs.Events.{kind_in}
use Rattle.sig_caep.specs.declared.event_type.CaepType.TheVariants.{RiskLevelChange}
use Rattle.sig_caep.proofs.kind.CaepKind.risk_level_change.Goals as goal

abbrev principal_rule : Rule
principal_rule = required (codes "principal") (OneOf (map principal_text principals))

abbrev current_rule : Rule
current_rule = required (codes "current_level") (OneOf (map risk_level_text risk_levels))

abbrev previous_rule : Rule
previous_rule = optional (codes "previous_level") (OneOf (map risk_level_text risk_levels))

abbrev reason_rule : Rule
reason_rule = optional (codes "risk_reason") AnyText

pub returns : goal.returns
returns c =
    let v = view c.args.payload.now in
    let principal_is = value_is (first_failing (member_checks v principal_rule)) (principal_in (value_of (codes "principal") v)) _ c.in_ok-principal.ensures in
    let current_is = value_is (first_failing (member_checks v current_rule)) (risk_level_in (value_of (codes "current_level") v)) _ c.in_ok-current_level.ensures in
    let previous_is = value_is (first_failing (member_checks v previous_rule)) (option_map risk_level_in (member_of (codes "previous_level") v)) _ c.in_ok-previous_level.ensures in
    let reason_is = value_is (first_failing (member_checks v reason_rule)) (option_map text_in (member_of (codes "risk_reason") v)) _ c.in_ok-risk_reason.ensures in
    ends_with principal_rule (current_rule ∷ previous_rule ∷ reason_rule ∷ []) v (principal_in (value_of (codes "principal") v)) _ (kind_in RiskLevelChange v) c.in_ok-principal.ensures
    ∙ ends_with current_rule (previous_rule ∷ reason_rule ∷ []) v (risk_level_in (value_of (codes "current_level") v)) _ (kind_in RiskLevelChange v) c.in_ok-current_level.ensures
    ∙ ends_with previous_rule (reason_rule ∷ []) v (option_map risk_level_in (member_of (codes "previous_level") v)) _ (kind_in RiskLevelChange v) c.in_ok-previous_level.ensures
    ∙ ends_with reason_rule ([]) v (option_map text_in (member_of (codes "risk_reason") v)) _ (kind_in RiskLevelChange v) c.in_ok-risk_reason.ensures
    ∙ cc (principal_is, current_is, previous_is, reason_is)
