use Rattle.std.proofs.Common.{◌≡◌, ℕ, ◌<◌, ◌≤◌, ◌-◌, refl, sym, ap, ◌∙◌, arith, if◌then◌else◌, nat_lt}
use Rattle.std.proofs.lemmas.Bool.{lt-ltb, le-ltb, eq-eqb, ne_eqb}
use Rattle.sig_http.specs.Chunks.{after_line, after_line_in, after_size_line}
use Rattle.sig_http.specs.declared.fault.HttpFault.TheVariants.{Length, BodyLong}
use Rattle.sig_http.specs.declared.section.Begun.TheVariants as begins
use Rattle.sig_http.specs.declared.chunks.Part.{Part}
use Rattle.sig_http.specs.declared.chunks.Part.TheVariants as parts
use Rattle.sig_http.specs.declared.chunks.Phase.TheVariants.{Data, Trailer}
use Rattle.sig_http.specs.declared.chunks.Chunk.TheVariants.{On, Broken}
use Rattle.sig_http.specs.declared.chunks.SizeLine.{SizeLine}
use Rattle.sig_http.proofs.chunks.after_line.Goals as goal

-- a whole line is judged by its size
by_size : (limit held : ℕ) (line : SizeLine) → line.part ≡ parts.Return → after_size_line limit held line.size ≡ after_line limit held line
by_size limit held line is = ap (λ p. after_line_in p limit held line) (sym is)

no_size : (limit held size : ℕ) → size ≡ 0 → On (Trailer 0 begins.Nothing) ≡ after_size_line limit held size
no_size limit held size none =
    ap (λ b. if b then On (Trailer 0 begins.Nothing) else (if nat_lt (limit - held) size then Broken BodyLong else On (Data size))) (sym (eq-eqb size 0 none))

some_size : (limit held size : ℕ) → (size ≡ 0 → ⊥) → (if nat_lt (limit - held) size then Broken BodyLong else On (Data size)) ≡ after_size_line limit held size
some_size limit held size some =
    ap (λ b. if b then On (Trailer 0 begins.Nothing) else (if nat_lt (limit - held) size then Broken BodyLong else On (Data size))) (sym (ne_eqb size 0 some))

too_long : (limit held size : ℕ) → (size ≡ 0 → ⊥) → limit - held < size → Broken BodyLong ≡ after_size_line limit held size
too_long limit held size some long = ap (λ b. if b then Broken BodyLong else On (Data size)) (sym (lt-ltb (limit - held) size long)) ∙ some_size limit held size some

fits : (limit held size : ℕ) → (size ≡ 0 → ⊥) → size ≤ limit - held → On (Data size) ≡ after_size_line limit held size
fits limit held size some short = ap (λ b. if b then Broken BodyLong else On (Data size)) (sym (le-ltb (limit - held) size short)) ∙ some_size limit held size some

pub returns-in-Return : goal.returns-in-Return
returns-in-Return c = no_size c.args.limit c.args.held c.args.line.size c.if-line-eq0.true ∙ by_size c.args.limit c.args.held c.args.line c.in-Return.is

pub returns-in-Return-2 : goal.returns-in-Return-2
returns-in-Return-2 c =
    too_long c.args.limit c.args.held c.args.line.size c.if-line-eq0.false (omega (arith, c.saturating_sub.ensures)) ∙ by_size c.args.limit c.args.held c.args.line c.in-Return-2.is

pub returns-in-Return-3 : goal.returns-in-Return-3
returns-in-Return-3 c =
    fits c.args.limit c.args.held c.args.line.size c.if-line-eq0.false (omega (arith, c.saturating_sub.ensures)) ∙ by_size c.args.limit c.args.held c.args.line c.in-Return-3.is
