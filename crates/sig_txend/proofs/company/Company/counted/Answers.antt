use Rattle.std.proofs.Common.{◌∙◌, ◌++◌, ap, refl, ℕ, List}
use Rattle.sig_txend.specs.Counting.{Counted, counted_text}
use Rattle.sig_txend.proofs.company.Company.counted.Goals as goal

pub returns : goal.returns
returns c =
    let all : Counted = record {
      figures = c.args.self.now.counts;
      records = c.args.records;
      bytes = c.args.bytes;
      lates = c.lates-lates.result.now.entries;
    } in (
      all,
      refl,
      refl,
      c.from_string.ensures ∙ c.in_ok-put_counted.ensures ∙ ap (λ (l : List ℕ). l ++ counted_text all) c.new-text.ensures.bytes,
    )
