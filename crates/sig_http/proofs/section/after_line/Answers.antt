use Rattle.std.proofs.Common.{◌≡◌, ◌<◌, ◌≤◌, ◌+◌, ◌⊎◌, inl, inr, refl, sym, ap, ◌∙◌, arith, if◌then◌else◌}
use Rattle.std.proofs.lemmas.Bool.{lt-ltb, le-ltb, eq-eqb}
use Rattle.sig_json.specs.declared.limits.TheConstants.{HEADER_FIELDS}
use Rattle.sig_http.specs.Section.{after_line, after_line_of, one_more}
use Rattle.sig_http.specs.declared.section.Begun.TheVariants.{Nothing, Return, Filled}
use Rattle.sig_http.specs.declared.section.Scan.{Scan}
use Rattle.sig_http.specs.declared.section.Section.TheVariants.{Ended, Long}
use Rattle.sig_http.proofs.section.after_line.Goals as goal

too_many : (s : Scan) → s.begun ≡ Filled → HEADER_FIELDS < s.lines → Long ≡ after_line s
too_many s is many = ap (λ b. if b then Long else one_more s (s.lines + 1) Nothing) (sym (lt-ltb HEADER_FIELDS s.lines many)) ∙ ap (λ b. after_line_of b s) (sym is)

one_line : (s : Scan) → s.begun ≡ Filled → s.lines ≤ HEADER_FIELDS → one_more s (s.lines + 1) Nothing ≡ after_line s
one_line s is few = ap (λ b. if b then Long else one_more s (s.lines + 1) Nothing) (sym (le-ltb HEADER_FIELDS s.lines few)) ∙ ap (λ b. after_line_of b s) (sym is)

passed_over : (s : Scan) → (s.begun ≡ Nothing) ⊎ (s.begun ≡ Return) → s.lines ≡ 0 → one_more s 0 Nothing ≡ after_line s
passed_over s (inl is) none = ap (λ b. if b then one_more s 0 Nothing else Ended (s.bytes + 1)) (sym (eq-eqb s.lines 0 none)) ∙ ap (λ b. after_line_of b s) (sym is)
passed_over s (inr is) none = ap (λ b. if b then one_more s 0 Nothing else Ended (s.bytes + 1)) (sym (eq-eqb s.lines 0 none)) ∙ ap (λ b. after_line_of b s) (sym is)

pub returns-in-Filled : goal.returns-in-Filled
returns-in-Filled c = record { section = too_many c.args.scan c.in-Filled.is (omega arith); counted = tt }

pub returns-in-Filled-2 : goal.returns-in-Filled-2
returns-in-Filled-2 c = record { section = one_line c.args.scan c.in-Filled-2.is (omega arith); counted = (refl, omega arith) }

pub returns-in-Nothing : goal.returns-in-Nothing
returns-in-Nothing c = record { section = passed_over c.args.scan c.in-Nothing.is c.if-scan-eq0.true; counted = (refl, omega arith) }
