use Rattle.std.proofs.Common.{[], ◌∷◌, ◌∙◌}
use Rattle.std.specs.Prelude.{codes, option_map}
use Rattle.serde_json.specs.View.{view}
use Rattle.serde_json.specs.Written.{compact_text}
use Rattle.sig_json.specs.Checks.{first_failing}
use Rattle.sig_json.specs.Json.{member_of}
use Rattle.sig_json.specs.Members.{Rule, AnyText, TextOrTexts, optional, text_in, member_checks}
use Rattle.sig_json.proofs.Decided.{value_is}
use Rattle.sig_json.proofs.MemberSteps.{ends_with}
use Rattle.sig_caep.specs.Events.{kind_in}
use Rattle.sig_caep.specs.declared.event_type.CaepType.TheVariants.{SessionEstablished}
use Rattle.sig_caep.proofs.kind.CaepKind.session_established.Goals as goal

abbrev acr_rule : Rule
acr_rule = optional (codes "acr") AnyText

abbrev amr_rule : Rule
amr_rule = optional (codes "amr") TextOrTexts

abbrev ext_id_rule : Rule
ext_id_rule = optional (codes "ext_id") AnyText

abbrev fp_ua_rule : Rule
fp_ua_rule = optional (codes "fp_ua") AnyText

pub returns : goal.returns
returns c =
    let v = view c.args.payload.now in
    let acr_is = value_is (first_failing (member_checks v acr_rule)) (option_map text_in (member_of (codes "acr") v)) _ c.in_ok-acr.ensures in
    let amr_is = value_is (first_failing (member_checks v amr_rule)) (option_map (λ d. compact_text d) (member_of (codes "amr") v)) _ c.in_ok-amr.ensures in
    let ext_id_is = value_is (first_failing (member_checks v ext_id_rule)) (option_map text_in (member_of (codes "ext_id") v)) _ c.in_ok-ext_id.ensures in
    let fp_ua_is = value_is (first_failing (member_checks v fp_ua_rule)) (option_map text_in (member_of (codes "fp_ua") v)) _ c.in_ok-fp_ua.ensures in
    ends_with acr_rule (amr_rule ∷ ext_id_rule ∷ fp_ua_rule ∷ []) v (option_map text_in (member_of (codes "acr") v)) _ (kind_in SessionEstablished v) c.in_ok-acr.ensures
    ∙ ends_with amr_rule (ext_id_rule ∷ fp_ua_rule ∷ []) v (option_map (λ d. compact_text d) (member_of (codes "amr") v)) _ (kind_in SessionEstablished v) c.in_ok-amr.ensures
    ∙ ends_with ext_id_rule (fp_ua_rule ∷ []) v (option_map text_in (member_of (codes "ext_id") v)) _ (kind_in SessionEstablished v) c.in_ok-ext_id.ensures
    ∙ ends_with fp_ua_rule ([]) v (option_map text_in (member_of (codes "fp_ua") v)) _ (kind_in SessionEstablished v) c.in_ok-fp_ua.ensures
    ∙ cc (acr_is, amr_is, ext_id_is, fp_ua_is)
