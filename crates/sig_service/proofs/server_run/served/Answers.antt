use Rattle.std.proofs.Common.{◌∙◌, ap}
use Rattle.sig_receive.specs.Sides.{sides_of}
use Rattle.sig_service.proofs.server_run.served.Goals as goal

pub returns-in-Transmitter-clause-so : goal.returns-in-Transmitter-clause-so
returns-in-Transmitter-clause-so g c =
    rw c.in-Transmitter.is (record {
      settings_failed = c.serve.ensures.settings_failed;
      refused_at = c.serve.ensures.refused;
      no_store = c.serve.ensures.no_store;
      store_failed = c.serve.ensures.store_failed;
      damaged_at = c.serve.ensures.damaged;
      network_failed = c.serve.ensures.network_failed;
      served = c.serve.ensures.serves;
      there = c.serve.ensures.there;
      missing = c.serve.ensures.missing;
      back = c.serve.ensures.back;
      others = c.serve.ensures.others;
      settings = c.serve.ensures.settings;
      sides = ap (λ s. sides_of s (g.X.Outside.sides_back c.serve.new.outside)) c.serve.ensures.sides.0 ∙ ap (sides_of (g.X.Outside.sides c.args.outside.now)) c.serve.ensures.sides.2;
    })

pub returns-in-Receiver-clause-so : goal.returns-in-Receiver-clause-so
returns-in-Receiver-clause-so g c =
    rw c.in-Receiver.is (record {
      settings_failed = c.receive.ensures.settings_failed;
      refused_at = c.receive.ensures.refused;
      no_store = c.receive.ensures.no_store;
      store_failed = c.receive.ensures.store_failed;
      damaged_at = c.receive.ensures.damaged;
      network_failed = c.receive.ensures.network_failed;
      served = c.receive.ensures.serves;
      there = c.receive.ensures.there;
      missing = c.receive.ensures.missing;
      back = c.receive.ensures.back;
      others = c.receive.ensures.others;
      settings = c.receive.ensures.settings;
      sides = ap (λ s. sides_of s (g.X.Outside.sides_back c.receive.new.outside)) c.receive.ensures.sides.0 ∙ ap (sides_of (g.X.Outside.sides c.args.outside.now)) c.receive.ensures.sides.2;
    })
