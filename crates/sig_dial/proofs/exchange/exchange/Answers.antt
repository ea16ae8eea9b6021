use Rattle.std.proofs.Common.{◌∙◌, inl, inr}
use Rattle.sig_dial.proofs.StoppingLemmas.{most_from, most_none, stops_from, stops_none}
use Rattle.sig_dial.proofs.ExchangeLemmas.{reads_nothing, writes_all}
use Rattle.sig_dial.proofs.exchange.exchange.Goals as goal

pub returns-in-Err-clause-awaits : goal.returns-in-Err-clause-awaits
returns-in-Err-clause-awaits g c =
    let nothing = reads_nothing _ _ _ _ c.in-Err.ensures.beside (g.met.L.Link.beside_writes _) (g.met.L.Link.beside_writes _) in
    inl nothing

pub returns-in-Ok-clause-awaits : goal.returns-in-Ok-clause-awaits
returns-in-Ok-clause-awaits g c =
    inr (writes_all _ _ _ _ _ _ c.in-Ok.ensures.written c.response_of.ensures.writes (c.response_of.ensures.puts ∙ c.in-Ok.ensures.steady (λ h. cc h)))

pub returns-in-Err-clause-stops : goal.returns-in-Err-clause-stops
returns-in-Err-clause-stops g c =
    let nothing = reads_nothing _ _ _ _ c.in-Err.ensures.beside (g.met.L.Link.beside_writes _) (g.met.L.Link.beside_writes _) in
    stops_none _ _ nothing.0

pub returns-in-Err-clause-most : goal.returns-in-Err-clause-most
returns-in-Err-clause-most g c =
    let nothing = reads_nothing _ _ _ _ c.in-Err.ensures.beside (g.met.L.Link.beside_writes _) (g.met.L.Link.beside_writes _) in
    most_none _ _ _ nothing.0

pub returns-in-Ok-clause-stops : goal.returns-in-Ok-clause-stops
returns-in-Ok-clause-stops g c =
    let nothing = reads_nothing _ _ _ _ c.in-Ok.ensures.beside (g.met.L.Link.beside_writes _) (g.met.L.Link.beside_writes _) in
    stops_from _ _ _ nothing.0 c.response_of.ensures.stops

pub returns-in-Ok-clause-most : goal.returns-in-Ok-clause-most
returns-in-Ok-clause-most g c =
    let nothing = reads_nothing _ _ _ _ c.in-Ok.ensures.beside (g.met.L.Link.beside_writes _) (g.met.L.Link.beside_writes _) in
    most_from _ _ _ _ nothing.0 c.response_of.ensures.most
