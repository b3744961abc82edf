-- on which terms an end of a link works
use Rattle.client_loop.specs.declared.terms.Terms.{Terms}
use Rattle.client_loop.specs.Listening.{DriverView}

abbrev pub terms_of : DriverView → Terms
terms_of d = record { sender = d.sender; times = d.times; turns = d.listener.turns; spent = d.listener.spent }

-- the same end of a link on other terms: what it has heard stays
abbrev pub on_terms : DriverView → Terms → DriverView
on_terms d terms = record {
  sender = terms.sender;
  times = terms.times;
  listener = record { node = terms.sender.node; ears = d.listener.ears; turns = terms.turns; spent = terms.spent };
}
