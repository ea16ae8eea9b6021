use Rattle.std.proofs.Common.{◌≡◌, [], ◌∷◌, map, ◌∙◌, rules}
use Rattle.std.specs.Prelude.{Err, codes, option_map}
use Rattle.serde_json.specs.View.{view}
use Rattle.serde_json.specs.Written.{compact_text}
use Rattle.sig_json.specs.Checks.{first_failing}
use Rattle.sig_json.specs.Json.{member_of}
use Rattle.sig_json.specs.Members.{Rule, OneOf, Whole, TextOrObject, optional, whole_in, member_checks}
use Rattle.sig_json.proofs.Decided.{value_is}
use Rattle.sig_json.proofs.MemberSteps.{stops_at, goes_on, ends_with}
use Rattle.sig_caep.specs.Lists.{initiator_text, initiators, initiator_in}
use Rattle.sig_caep.specs.Events.{common_in}
use Rattle.sig_caep.proofs.common_members.Common.from_json.Goals as goal

abbrev event_timestamp_rule : Rule
event_timestamp_rule = optional (codes "event_timestamp") Whole

abbrev initiating_entity_rule : Rule
initiating_entity_rule = optional (codes "initiating_entity") (OneOf (map initiator_text initiators))

abbrev reason_admin_rule : Rule
reason_admin_rule = optional (codes "reason_admin") TextOrObject

abbrev reason_user_rule : Rule
reason_user_rule = optional (codes "reason_user") TextOrObject

pub returns-in_err-event_timestamp : goal.returns-in_err-event_timestamp
returns-in_err-event_timestamp c =
    let v = view c.args.payload.now in
    let is : c.from_residual.result ≡ Err c.in_err-event_timestamp.field-0.0 = search rules in
    stops_at event_timestamp_rule (initiating_entity_rule ∷ reason_admin_rule ∷ reason_user_rule ∷ []) v (option_map whole_in (member_of (codes "event_timestamp") v)) (common_in v) _ _ is c.in_err-event_timestamp.ensures

pub returns-in_err-initiating_entity : goal.returns-in_err-initiating_entity
returns-in_err-initiating_entity c =
    let v = view c.args.payload.now in
    let is : c.from_residual-in_err-initiating_entity.result ≡ Err c.in_err-initiating_entity.field-0.0 = search rules in
    goes_on event_timestamp_rule (initiating_entity_rule ∷ reason_admin_rule ∷ reason_user_rule ∷ []) v (option_map whole_in (member_of (codes "event_timestamp") v)) _ (common_in v) _ c.in_ok-event_timestamp.ensures (
    stops_at initiating_entity_rule (reason_admin_rule ∷ reason_user_rule ∷ []) v (option_map initiator_in (member_of (codes "initiating_entity") v)) (common_in v) _ _ is c.in_err-initiating_entity.ensures)

pub returns-in_err-reason_admin : goal.returns-in_err-reason_admin
returns-in_err-reason_admin c =
    let v = view c.args.payload.now in
    let is : c.from_residual-in_err-reason_admin.result ≡ Err c.in_err-reason_admin.field-0.0 = search rules in
    goes_on event_timestamp_rule (initiating_entity_rule ∷ reason_admin_rule ∷ reason_user_rule ∷ []) v (option_map whole_in (member_of (codes "event_timestamp") v)) _ (common_in v) _ c.in_ok-event_timestamp.ensures (
    goes_on initiating_entity_rule (reason_admin_rule ∷ reason_user_rule ∷ []) v (option_map initiator_in (member_of (codes "initiating_entity") v)) _ (common_in v) _ c.in_ok-initiating_entity.ensures (
    stops_at reason_admin_rule (reason_user_rule ∷ []) v (option_map (λ d. compact_text d) (member_of (codes "reason_admin") v)) (common_in v) _ _ is c.in_err-reason_admin.ensures))

pub returns-in_err-reason_user : goal.returns-in_err-reason_user
returns-in_err-reason_user c =
    let v = view c.args.payload.now in
    let is : c.from_residual-in_err-reason_user.result ≡ Err c.in_err-reason_user.field-0.0 = search rules in
    goes_on event_timestamp_rule (initiating_entity_rule ∷ reason_admin_rule ∷ reason_user_rule ∷ []) v (option_map whole_in (member_of (codes "event_timestamp") v)) _ (common_in v) _ c.in_ok-event_timestamp.ensures (
    goes_on initiating_entity_rule (reason_admin_rule ∷ reason_user_rule ∷ []) v (option_map initiator_in (member_of (codes "initiating_entity") v)) _ (common_in v) _ c.in_ok-initiating_entity.ensures (
    goes_on reason_admin_rule (reason_user_rule ∷ []) v (option_map (λ d. compact_text d) (member_of (codes "reason_admin") v)) _ (common_in v) _ c.in_ok-reason_admin.ensures (
    stops_at reason_user_rule ([]) v (option_map (λ d. compact_text d) (member_of (codes "reason_user") v)) (common_in v) _ _ is c.in_err-reason_user.ensures)))

pub returns : goal.returns
returns c =
    let v = view c.args.payload.now in
    let event_timestamp_is = value_is (first_failing (member_checks v event_timestamp_rule)) (option_map whole_in (member_of (codes "event_timestamp") v)) _ c.in_ok-event_timestamp.ensures in
    let initiating_entity_is = value_is (first_failing (member_checks v initiating_entity_rule)) (option_map initiator_in (member_of (codes "initiating_entity") v)) _ c.in_ok-initiating_entity.ensures in
    let reason_admin_is = value_is (first_failing (member_checks v reason_admin_rule)) (option_map (λ d. compact_text d) (member_of (codes "reason_admin") v)) _ c.in_ok-reason_admin.ensures in
    let reason_user_is = value_is (first_failing (member_checks v reason_user_rule)) (option_map (λ d. compact_text d) (member_of (codes "reason_user") v)) _ c.in_ok-reason_user.ensures in
    ends_with event_timestamp_rule (initiating_entity_rule ∷ reason_admin_rule ∷ reason_user_rule ∷ []) v (option_map whole_in (member_of (codes "event_timestamp") v)) _ (common_in v) c.in_ok-event_timestamp.ensures
    ∙ ends_with initiating_entity_rule (reason_admin_rule ∷ reason_user_rule ∷ []) v (option_map initiator_in (member_of (codes "initiating_entity") v)) _ (common_in v) c.in_ok-initiating_entity.ensures
    ∙ ends_with reason_admin_rule (reason_user_rule ∷ []) v (option_map (λ d. compact_text d) (member_of (codes "reason_admin") v)) _ (common_in v) c.in_ok-reason_admin.ensures
    ∙ ends_with reason_user_rule ([]) v (option_map (λ d. compact_text d) (member_of (codes "reason_user") v)) _ (common_in v) c.in_ok-reason_user.ensures
    ∙ cc (event_timestamp_is, initiating_entity_is, reason_admin_is, reason_user_is)
