use Rattle.std.proofs.Common.{◌≡◌, Some, sym, ap, ◌∙◌}
use Rattle.bits.specs.Bits.{Bits}
use Rattle.bits.specs.Halves.{front}
use Rattle.model.specs.Maps.{held}
use Rattle.model.specs.Longest.{answer}
use Rattle.trie.specs.Nodes.{at, routes}
use Rattle.trie.specs.Well.{AddressHalves}
use Rattle.trie.proofs.InUse.{in_use, best_in_use}
use Rattle.trie.proofs.Planes.{slot_proper, found_is, none_is}
use Rattle.patricia.proofs.patricia.PatriciaOnePlane.longest.Goals as goal

pub best-requires-clause-trie : goal.best-requires-clause-trie
best-requires-clause-trie g c = in_use _ _ c.requires.well.trie.within c.requires.well.trie

pub hop_in-requires : goal.hop_in-requires
hop_in-requires g c =
    let b = best_in_use c.args.self.now.nodes.now _ c.requires.well.trie.within _ _ c.in_ok-slot.ensures in
    (slot_proper _ _ _ c.requires.well _ _ b.covering.0 (c.in_ok-hop.was)).clear

pub returns : goal.returns
returns g c =
    let w = g.A.Address.WIDTH in
    let s = c.args.self.now in
    let b = best_in_use s.nodes.now s.used c.requires.well.trie.within _ _ c.in_ok-slot.ensures in
    let is : (at s.nodes.now c.in_ok-slot.slot).hop ≡ Some c.in_ok-hop.hop = c.in_ok-hop.was in
    let ok : AddressHalves w c.in_ok-hop.hop = slot_proper _ _ _ c.requires.well _ _ b.covering.0 is in
    let bits : g.A.Address.bits c.hop_in.result ≡ front w c.in_ok-hop.hop = ap g.A.Address.bits c.hop_in.ensures ∙ g.met.A.Address.reads _ ∙ ap (front w) (g.met.A.Address.forth _ ok.fits ok.clear) in
    let address : front w c.to_halves.result ≡ g.A.Address.bits c.args.address = ap (front w) c.to_halves.ensures ∙ sym (g.met.A.Address.reads c.args.address) in
    ap (λ (h : Bits). Some ((at s.nodes.now c.in_ok-slot.slot).prefix.len, h)) bits
    ∙ found_is _ _ _ c.requires.well _ g.met.A.Address.sized.1 c.requires.within _ _ is b
    ∙ ap (λ (a : Bits). answer (held (routes w s.used s.nodes.now)) a c.args.bound) address

pub returns-in_err-hop : goal.returns-in_err-hop
returns-in_err-hop g c = absurd ((best_in_use c.args.self.now.nodes.now _ c.requires.well.trie.within _ _ c.in_ok-slot.ensures).covering.2 (c.in_err-hop.was))

pub returns-in_err-slot : goal.returns-in_err-slot
returns-in_err-slot g c =
    let w = g.A.Address.WIDTH in
    let s = c.args.self.now in
    let address : front w c.to_halves.result ≡ g.A.Address.bits c.args.address = ap (front w) c.to_halves.ensures ∙ sym (g.met.A.Address.reads c.args.address) in
    rw c.from_residual.ensures (none_is _ _ _ c.requires.well _ g.met.A.Address.sized.1 c.requires.within (best_in_use s.nodes.now s.used c.requires.well.trie.within _ _ c.in_err-slot.ensures)
    ∙ ap (λ (a : Bits). answer (held (routes w s.used s.nodes.now)) a c.args.bound) address)
