-- The closed lists of texts in the payloads of CAEP, each with the value that a text stands for.
use Rattle.std.specs.Prelude.{ℕ, List, [], ◌∷◌, codes}
use Rattle.serde_json.specs.Data.{Data}
use Rattle.sig_json.specs.Listed.{listed_in}
use Rattle.sig_caep.specs.declared.change.Change.{Change}
use Rattle.sig_caep.specs.declared.change.Change.TheVariants.{Create, Revoke, Update, Delete}
use Rattle.sig_caep.specs.declared.direction.Direction.{Direction}
use Rattle.sig_caep.specs.declared.direction.Direction.TheVariants.{Increase, Decrease}
use Rattle.sig_caep.specs.declared.compliance.Compliance.{Compliance}
use Rattle.sig_caep.specs.declared.compliance.Compliance.TheVariants.{Compliant, NotCompliant}
use Rattle.sig_caep.specs.declared.initiator.Initiator.{Initiator}
use Rattle.sig_caep.specs.declared.initiator.Initiator.TheVariants.{Admin, User, Policy, System}
use Rattle.sig_caep.specs.declared.principal.Principal.{Principal}
use Rattle.sig_caep.specs.declared.principal.Principal.TheVariants as whose
use Rattle.sig_caep.specs.declared.risk_level.RiskLevel.{RiskLevel}
use Rattle.sig_caep.specs.declared.risk_level.RiskLevel.TheVariants.{Low, Medium, High}

-- what was done to a credential (CAEP 1.0, section 3.3)
unfoldable pub change_text : Change → List ℕ
change_text Create = codes "create"
change_text Revoke = codes "revoke"
change_text Update = codes "update"
change_text Delete = codes "delete"

unfoldable pub changes : List Change
changes = Create ∷ Revoke ∷ Update ∷ Delete ∷ []

-- the change that the text stands for
abbrev pub change_in : Data → Change
change_in = listed_in change_text changes Create

-- how an assurance level changed (CAEP 1.0, section 3.4)
unfoldable pub direction_text : Direction → List ℕ
direction_text Increase = codes "increase"
direction_text Decrease = codes "decrease"

unfoldable pub directions : List Direction
directions = Increase ∷ Decrease ∷ []

-- the direction that the text stands for
abbrev pub direction_in : Data → Direction
direction_in = listed_in direction_text directions Increase

-- whether a device is compliant (CAEP 1.0, section 3.5)
unfoldable pub compliance_text : Compliance → List ℕ
compliance_text Compliant = codes "compliant"
compliance_text NotCompliant = codes "not-compliant"

unfoldable pub compliances : List Compliance
compliances = Compliant ∷ NotCompliant ∷ []

-- the compliance that the text stands for
abbrev pub compliance_in : Data → Compliance
compliance_in = listed_in compliance_text compliances Compliant

-- whose risk level changed (CAEP 1.0, section 3.8)
unfoldable pub principal_text : Principal → List ℕ
principal_text whose.User = codes "USER"
principal_text whose.Device = codes "DEVICE"
principal_text whose.Session = codes "SESSION"
principal_text whose.Tenant = codes "TENANT"
principal_text whose.OrgUnit = codes "ORG_UNIT"
principal_text whose.Group = codes "GROUP"

unfoldable pub principals : List Principal
principals = whose.User ∷ whose.Device ∷ whose.Session ∷ whose.Tenant ∷ whose.OrgUnit ∷ whose.Group ∷ []

-- the principal that the text stands for
abbrev pub principal_in : Data → Principal
principal_in = listed_in principal_text principals whose.User

-- how high a risk is (CAEP 1.0, section 3.8)
unfoldable pub risk_level_text : RiskLevel → List ℕ
risk_level_text Low = codes "LOW"
risk_level_text Medium = codes "MEDIUM"
risk_level_text High = codes "HIGH"

unfoldable pub risk_levels : List RiskLevel
risk_levels = Low ∷ Medium ∷ High ∷ []

-- the risk level that the text stands for
abbrev pub risk_level_in : Data → RiskLevel
risk_level_in = listed_in risk_level_text risk_levels Low

-- who brought the event about (CAEP 1.0, section 2)
unfoldable pub initiator_text : Initiator → List ℕ
initiator_text Admin = codes "admin"
initiator_text User = codes "user"
initiator_text Policy = codes "policy"
initiator_text System = codes "system"

unfoldable pub initiators : List Initiator
initiators = Admin ∷ User ∷ Policy ∷ System ∷ []

-- the initiator that the text stands for
abbrev pub initiator_in : Data → Initiator
initiator_in = listed_in initiator_text initiators Admin
