use Rattle.std.specs.Prelude.{option_copied}
use Rattle.sig_fold.proofs.TellingLemmas.{fold-takes}
use Rattle.sig_fold.proofs.folder.FolderTeller.tell.Goals as goal

pub returns-clause-takes : goal.returns-clause-takes
returns-clause-takes c =
    fold-takes c.args.self.now.trust c.judge.new.self.trust c.args.self.now.issuer c.judge.new.self.issuer c.args.self.now.receiver c.judge.new.self.receiver
    c.args.number (option_copied c.args.line) c.args.gathered.now c.judge.new.gathered
    c.judge.ensures.trust c.judge.ensures.issuer c.in_ok-judge.ensures.text c.in_ok-judge.ensures.kept
