mod Settlings
