-- The text of a fault, in ASCII.
use Rattle.std.specs.Prelude.{ℕ, List, ◌++◌, codes}
use Rattle.std.specs.Fmt.{decimal}
use Rattle.pcap_io.specs.declared.fault.PcapFault.{PcapFault}
use Rattle.pcap_io.specs.declared.fault.PcapFault.TheVariants.{NotPcap, ShortHeader, Version, LinkType, Truncated, TimeRange, TooLong, TooMany}

unfoldable pub pcap_fault_text : PcapFault → List ℕ
pcap_fault_text NotPcap = codes "not pcap"
pcap_fault_text ShortHeader = codes "short header"
pcap_fault_text (Version major) = codes "version " ++ decimal major
pcap_fault_text (LinkType link_type) = codes "link type " ++ decimal link_type
pcap_fault_text (Truncated packet) = codes "packet " ++ decimal packet ++ codes " is cut short"
pcap_fault_text (TimeRange packet) = codes "time of packet " ++ decimal packet ++ codes " out of range"
pcap_fault_text (TooLong packet) = codes "packet " ++ decimal packet ++ codes " is too long"
pcap_fault_text TooMany = codes "too many packets"
