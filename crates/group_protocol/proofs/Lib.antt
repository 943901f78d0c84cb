pub mod Elements
mod PacketsFit
mod ByCases
mod Sending
mod Places
mod Pumping
mod NodeBackedAsMoreIsSent
mod Saving
mod WaitingKeys
mod Submits
