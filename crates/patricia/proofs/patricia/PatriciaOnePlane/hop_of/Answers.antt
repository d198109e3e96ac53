use Rattle.std.proofs.Common.{◌≡◌, Some, sym, ap, ◌∙◌}
use Rattle.bits.specs.Halves.{front}
use Rattle.model.proofs.Mapped.{made}
use Rattle.trie.specs.Nodes.{holds}
use Rattle.trie.specs.Well.{AddressHalves}
use Rattle.trie.proofs.InUse.{in_use, held_in_use}
use Rattle.trie.proofs.Planes.{plane_holds, held_proper}
use Rattle.patricia.proofs.patricia.PatriciaOnePlane.hop_of.Goals as goal

pub find-requires-clause-trie : goal.find-requires-clause-trie
find-requires-clause-trie g c = in_use _ _ c.requires.trie.within c.requires.trie

pub hop_in-requires : goal.hop_in-requires
hop_in-requires g c = (held_proper _ _ _ c.requires _ _ (sym (c.in_ok-hop.ensures ∙ held_in_use _ _ c.requires.trie.within _))).clear

pub returns : goal.returns
returns g c =
    let w = g.A.Address.WIDTH in
    let s = c.args.self.now in
    let is = c.in_ok-hop.ensures ∙ held_in_use s.nodes.now s.used c.requires.trie.within _ in
    let ok : AddressHalves w c.in_ok-hop.hop = held_proper _ _ _ c.requires _ _ (sym is) in
    let bits : g.A.Address.bits c.hop_in.result ≡ front w c.in_ok-hop.hop = ap g.A.Address.bits c.hop_in.ensures ∙ g.met.A.Address.reads _ ∙ ap (front w) (g.met.A.Address.forth _ ok.fits ok.clear) in
    ap Some bits ∙ ap (made (front w)) (is ∙ ap (holds s.nodes.now s.used) c.key_of-key.ensures.prefix) ∙ sym (plane_holds w s.used s.nodes.now c.requires _)

pub returns-in_err-hop : goal.returns-in_err-hop
returns-in_err-hop g c =
    let w = g.A.Address.WIDTH in
    let s = c.args.self.now in
    let is = c.in_err-hop.ensures ∙ held_in_use s.nodes.now s.used c.requires.trie.within _ in
    rw c.from_residual.ensures (ap (made (front w)) (is ∙ ap (holds s.nodes.now s.used) c.key_of-key.ensures.prefix) ∙ sym (plane_holds w s.used s.nodes.now c.requires _))
